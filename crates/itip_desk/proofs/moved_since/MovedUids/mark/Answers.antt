use Rattle.std.proofs.Common.{◌≡◌, ◌+◌, ◌∙◌, ℕ, List, take, take_all, true, sym, ap, subst, arith}
use Rattle.std.specs.Prelude.{cond, Some}
use Rattle.std.specs.List.{Contains}
use Rattle.itip_state.proofs.Listing.{in_listed}
use Rattle.itip_desk.specs.MovedSince.{Moved, is_listed, tick_at}
use Rattle.itip_desk.proofs.Ticking.{taken_more, none_marked, marked_there, one_marked}
use Rattle.itip_desk.proofs.moved_since.MovedUids.mark.Goals as goal

pub loop-uid-init : goal.loop-uid-init
loop-uid-init c = record {
  ordered = c.self.invariant.sorted;
  by_tick = c.self.invariant.by_tick;
  marked = none_marked c.args.tick c.args.uids.now c.args.self.now.carried c.self.inside.ticks.entries c.self.inside.order.items
      (ap (λ (m : Moved). m.carried) c.self.view_is) c.self.invariant.in_order
      (λ q h. subst (λ (ms : List (ℕ × List ℕ)). Contains ms (c.args.tick, q)) (sym (ap (λ (m : Moved). m.order) c.self.view_is))
      (c.requires.in_order q h));
}

pub loop-uid-preserved : goal.loop-uid-preserved
loop-uid-preserved c =
    let u : List ℕ = c.uid-item.result in
    let uids : List (List ℕ) = c.args.uids.now in
    let i : ℕ = c.loop-uid.uid-index in
    let more = taken_more uids i u c.loop-uid-test.true c.uid-item.is in
    let listed : is_listed uids u ≡ true = in_listed uids u (i, c.loop-uid-test.true, sym c.uid-item.is) in
    let there = marked_there c.args.tick uids (take i uids) c.args.self.now.carried c.loop-uid.self-inside.ticks.entries
    c.loop-uid.self-inside.order.items c.loop-uid.invariant.marked u (c.requires.placed u listed) in
    record {
      ordered = c.set.ensures.ordered;
      by_tick = c.loop-uid.invariant.by_tick;
      marked = one_marked c.args.tick uids (take i uids) (take (i + 1) uids) u c.args.self.now.carried
          c.loop-uid.self-inside.ticks.entries c.set.new.ticks.entries c.loop-uid.self-inside.order.items
          more listed c.loop-uid.invariant.marked (λ q. c.set.ensures.with q there);
    }

pub invariant_of-self : goal.invariant_of-self
invariant_of-self c = record {
  sorted = c.loop-uid.invariant.ordered;
  in_order = c.loop-uid.invariant.marked.in_order;
  by_tick = c.loop-uid.invariant.by_tick;
}

pub returns : goal.returns
returns c = λ q. c.loop-uid.invariant.marked.at q ∙ ap (λ (us : List (List ℕ)). cond (is_listed us q) (Some c.args.tick)
    (tick_at c.args.self.now.carried q)) (take_all c.loop-uid.uid-index c.args.uids.now (omega (arith, c.loop-uid-test.false)))
