use Rattle.std.proofs.Common.{◌≡◌, ◌⊎◌, ◌+◌, ℕ, List, None, Bool, take, take_all, true, false, sym, subst, arith, ◌∙◌}
use Rattle.std.specs.BTreeMap.{BTreeMap, IsOrdered}
use Rattle.itip_desk.specs.MovedSince.{tick_at}
use Rattle.itip_desk.proofs.Ticking.{uid_cmp, taken_more, fewer_one, PlacesLeft, place_none, place_out, places_out}
use Rattle.itip_desk.proofs.moved_since.drop_places.Goals as goal
use Rattle.itip_desk.proofs.moved_since.drop_places.Goals.{then-carries, else-carries}

differ : (b : Bool) → b ≡ false → b ≡ true → ⊥
differ b e h = let x : true ≡ false = sym h ∙ e in absurd (cc)

pub loop-uid-preserved : goal.loop-uid-preserved
loop-uid-preserved c =
    let u : List ℕ = c.uid-item.result in
    let uids : List (List ℕ) = c.args.uids.now in
    let more = taken_more uids c.loop-uid.uid-index u c.loop-uid-test.true c.uid-item.is in
    record {
      ordered = elim c.if-carries.branch [
        | then-carries w ↦ subst (λ (t : BTreeMap (List ℕ) ℕ). IsOrdered uid_cmp t) (sym w.ticks-is) w.remove.ensures.ordered
        | else-carries w ↦ subst (λ (t : BTreeMap (List ℕ) ℕ). IsOrdered uid_cmp t) (sym w.ticks-is) c.loop-uid.invariant.ordered
      ];
      fewer = elim c.if-carries.branch [
        | then-carries w ↦ subst (λ (t : BTreeMap (List ℕ) ℕ). (q : List ℕ) → (tick_at t.entries q ≡ tick_at c.args.ticks.now.entries q) ⊎
            (tick_at t.entries q ≡ None)) (sym w.ticks-is)
            (fewer_one u c.args.ticks.now.entries c.loop-uid.ticks.entries w.remove.new.self.entries w.remove.ensures.updates.0
            c.loop-uid.invariant.fewer)
        | else-carries w ↦ subst (λ (t : BTreeMap (List ℕ) ℕ). (q : List ℕ) → (tick_at t.entries q ≡ tick_at c.args.ticks.now.entries q) ⊎
            (tick_at t.entries q ≡ None)) (sym w.ticks-is) c.loop-uid.invariant.fewer
      ];
      left = λ was ticks have. elim c.if-carries.branch [
        | then-carries w ↦ subst (λ (t : BTreeMap (List ℕ) ℕ). PlacesLeft uids (take (c.loop-uid.uid-index + 1) uids) was t.entries)
            (sym w.ticks-is)
            (place_out uids (take c.loop-uid.uid-index uids) (take (c.loop-uid.uid-index + 1) uids) u was
            c.loop-uid.ticks.entries more ticks
            (c.loop-uid.invariant.left was ticks have) w.remove.new.self.entries (c.carries.ensures.0 w.if-carries.true)
            w.remove.ensures.updates.0)
        | else-carries w ↦ subst (λ (t : BTreeMap (List ℕ) ℕ). PlacesLeft uids (take (c.loop-uid.uid-index + 1) uids) was t.entries)
            (sym w.ticks-is)
            (place_none uids (take c.loop-uid.uid-index uids) (take (c.loop-uid.uid-index + 1) uids) u was
            c.loop-uid.ticks.entries more ticks
            (c.loop-uid.invariant.left was ticks have)
            (λ zero. differ c.carries.result w.if-carries.false (c.carries.ensures.1 zero)))
      ];
    }

pub returns-clause-without : goal.returns-clause-without
returns-clause-without c = λ was sorted ticks have.
    let uids : List (List ℕ) = c.args.uids.now in
    places_out uids was c.loop-uid.ticks.entries sorted c.loop-uid.invariant.ordered
    (subst (λ (done : List (List ℕ)). PlacesLeft uids done was c.loop-uid.ticks.entries)
    (take_all c.loop-uid.uid-index uids (omega (arith, c.loop-uid-test.false))) (c.loop-uid.invariant.left was ticks have))
