use Rattle.std.proofs.Common.{◌≡◌, ◌∙◌, ◌∷◌, ◌+◌, ◌<◌, ℕ, List, [], inl, inr, map, drop, sym, ap, subst, true, false, Bool, Some, Bor}
use Rattle.std.specs.List.{Contains}
use Rattle.std.proofs.Math.ListN.{drop_of_length-le}
use Rattle.std.proofs.lemmas.List.{drop_more, map-append}
use Rattle.itip_state.proofs.Members.{none_in}
use Rattle.itip_desk.specs.MovedSince.{Moved, AreInOrder, tick_at}
use Rattle.itip_desk.proofs.Ticking.{FoundSoFar, found_first, found_more, found_past}
use Rattle.itip_desk.proofs.moved_since.MovedUids.after.Goals as goal
use Rattle.itip_desk.proofs.moved_since.MovedUids.after.Goals.{then-carries+in_ok-push, else-carries}

differ : (b : Bool) → b ≡ false → b ≡ true → ⊥
differ b e h = cc

pub loop-tick-init : goal.loop-tick-init
loop-tick-init c =
    let empty : map (λ u. u.now) c.new-uids.result.items ≡ [] = ap (map (λ u. u.now)) c.new-uids.ensures.items in
    found_first c.args.self.now.carried c.self.inside.order.items c.args.since (map (λ u. u.now) c.new-uids.result.items) _
    (subst (λ (es : List (List ℕ × ℕ)). AreInOrder es c.self.inside.order.items) (ap (λ (m : Moved). m.carried) c.self.view_is)
    c.self.invariant.in_order) empty
    (λ move h above. (c.moves_after-tick-items.ensures move).1
    (subst (λ (ms : List (ℕ × List ℕ)). Contains ms move) (sym c.deref.ensures.value) h, above))

pub loop-tick-preserved : goal.loop-tick-preserved
loop-tick-preserved c =
    let now = map (λ (u : Bor (List ℕ)). u.now) in
    let carried : List (List ℕ × ℕ) = c.args.self.now.carried in
    let items : List (ℕ × List ℕ) = c.moves_after-tick-items.result.now in
    let i : ℕ = c.loop-tick.tick-index in
    let move : ℕ × List ℕ = c.loop-tick-item.result in
    let cut : drop i items ≡ move ∷ drop (i + 1) items = drop_more items i move c.loop-tick-test.true ∙
    ap (λ (m : ℕ × List ℕ). m ∷ drop (i + 1) items) (sym c.loop-tick-item.is) in
    let above : c.args.since < move.0 = ((c.moves_after-tick-items.ensures move).0 (i, c.loop-tick-test.true, sym c.loop-tick-item.is)).1 in
    let same : c.self.inside.ticks.entries ≡ carried = ap (λ (m : Moved). m.carried) c.self.view_is in
    elim c.if-carries.branch [
      | then-carries+in_ok-push w ↦
          found_more carried c.args.since (now c.loop-tick.uids.items) (drop i items) (drop (i + 1) items) move cut c.loop-tick.invariant
          (subst (λ (es : List (List ℕ × ℕ)). tick_at es move.1 ≡ Some move.0) same (c.carries.ensures.0 w.if-carries.true), above)
          (now c.if-carries.uids.items)
          (ap (λ v. now v.items) w.uids-is ∙ ap now w.in_ok-push.ensures.items ∙ map-append (λ u. u.now) c.loop-tick.uids.items _)
      | else-carries w ↦
          subst (λ (us : List (List ℕ)). FoundSoFar carried c.args.since us (drop (i + 1) items)) (sym (ap (λ v. now v.items) w.uids-is))
          (found_past carried c.args.since (now c.loop-tick.uids.items) (drop i items) (drop (i + 1) items) move cut c.loop-tick.invariant
          (λ carries. differ c.carries.result w.if-carries.false (c.carries.ensures.1
          (subst (λ (es : List (List ℕ × ℕ)). tick_at es move.1 ≡ Some move.0) (sym same) carries.0))))
    ]

pub returns : goal.returns
returns c =
    let items : List (ℕ × List ℕ) = c.moves_after-tick-items.result.now in
    let none : drop c.loop-tick.tick-index items ≡ [] = drop_of_length-le items c.loop-tick-test.false in
    λ uid. (
      c.loop-tick.invariant.among uid,
      λ carries. elim (c.loop-tick.invariant.coming uid carries.0 carries.1 carries.2) [
        | inl found ↦ found
        | inr comes ↦ absurd (none_in (carries.0, uid) (subst (λ (ms : List (ℕ × List ℕ)). Contains ms (carries.0, uid)) none comes))
      ],
    )
