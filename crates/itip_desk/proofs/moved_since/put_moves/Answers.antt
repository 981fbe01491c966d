use Rattle.std.proofs.Common.{◌≡◌, ◌<◌, ◌+◌, ◌++◌, ◌∷◌, [], ◌∙◌, ℕ, List, inl, refl, take, true, sym, ap, subst, arith}
use Rattle.std.specs.Prelude.{is_some}
use Rattle.std.specs.List.{Contains}
use Rattle.itip_state.proofs.Listing.{in_listed}
use Rattle.itip_desk.specs.MovedSince.{is_listed, tick_at}
use Rattle.itip_desk.proofs.Ticking.{listed_all, taken_more, put_by_tick, put_most, put_keeps, put_there}
use Rattle.itip_desk.proofs.moved_since.put_moves.Goals as goal

pub loop-uid-init : goal.loop-uid-init
loop-uid-init c = record {
  by_tick = c.requires.by_tick;
  most = λ move h. let before : move.0 < c.args.tick = c.requires.before move h in omega (arith, before);
  all = λ q h. absurd (cc);
  keeps = λ move h. h;
  ordered = c.requires.ordered;
  places = λ q. inl refl;
  placed = λ q h. absurd (cc);
}

pub loop-uid-preserved : goal.loop-uid-preserved
loop-uid-preserved c =
    let u : List ℕ = c.uid-item.result in
    let uids : List (List ℕ) = c.args.uids.now in
    let i : ℕ = c.loop-uid.uid-index in
    let listed : is_listed uids u ≡ true = in_listed uids u (i, c.loop-uid-test.true, sym c.uid-item.is) in
    let more = taken_more uids i u c.loop-uid-test.true c.uid-item.is in
    let was : List (ℕ × List ℕ) = c.loop-uid.order.items in
    let now : List (ℕ × List ℕ) = c.push.new.self.items in
    let put : now ≡ was ++ (c.args.tick, u) ∷ [] = c.in_ok-push.ensures.items ∙
    ap (λ (v : List ℕ). was ++ (c.args.tick, v) ∷ []) c.in_ok-own.ensures.own in
    let most = c.loop-uid.invariant.most in
    record {
      by_tick = put_by_tick c.args.tick u was now put most c.loop-uid.invariant.by_tick;
      most = put_most c.args.tick u was now put most;
      all = listed_all (λ (q : List ℕ). Contains now (c.args.tick, q)) (take i uids) (take (i + 1) uids) u more
          (put_there c.args.tick u was now put most)
          (λ q h. put_keeps c.args.tick u was now put most (c.args.tick, q) (c.loop-uid.invariant.all q h));
      keeps = λ move h. put_keeps c.args.tick u was now put most move (c.loop-uid.invariant.keeps move h);
      ordered = c.place.ensures.ordered;
      places = c.place.ensures.places uids c.args.ticks.now.entries listed c.loop-uid.invariant.places;
      placed = listed_all (λ (q : List ℕ). is_some (tick_at c.place.new.ticks.entries q) ≡ true) (take i uids) (take (i + 1) uids) u more
          c.in_ok-own.ensures.placed (λ q h. c.place.ensures.stay q (c.loop-uid.invariant.placed q h));
    }

pub returns-in_err-own-clause-places : goal.returns-in_err-own-clause-places
returns-in_err-own-clause-places c =
    c.place.ensures.places c.args.uids.now c.args.ticks.now.entries
    (in_listed c.args.uids.now c.uid-item.result (c.loop-uid.uid-index, c.loop-uid-test.true, sym c.uid-item.is))
    c.loop-uid.invariant.places

pub returns-in_err-push-clause-places : goal.returns-in_err-push-clause-places
returns-in_err-push-clause-places c =
    c.place.ensures.places c.args.uids.now c.args.ticks.now.entries
    (in_listed c.args.uids.now c.uid-item.result (c.loop-uid.uid-index, c.loop-uid-test.true, sym c.uid-item.is))
    c.loop-uid.invariant.places

pub returns-in_err-push-clause-keeps : goal.returns-in_err-push-clause-keeps
returns-in_err-push-clause-keeps c = λ move h. subst (λ (ms : List (ℕ × List ℕ)). Contains ms move) (sym c.in_err-push.ensures.items)
    (c.loop-uid.invariant.keeps move h)
