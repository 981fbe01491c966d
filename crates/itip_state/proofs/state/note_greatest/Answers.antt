use Rattle.std.proofs.Common.{◌≡◌, ◌≤◌, ◌∙◌, Some, None, sym, ap, subst, arith}
use Rattle.itip_items.specs.declared.item.Item.{Item}
use Rattle.itip_join.specs.KeyByKey.{value_at}
use Rattle.itip_state.proofs.Maps.{uid_cmp}
use Rattle.itip_state.proofs.Giving.{noted_before, noted_with}
use Rattle.itip_state.proofs.state.note_greatest.Goals as goal
use Rattle.itip_state.proofs.state.note_greatest.Goals.{in-Some+else-before-sequence, in_default}

some_one : {X : Type 0} (x y : X) → Some x ≡ Some y → x ≡ y
some_one x y e = cc

none_some : {X : Type 0} (x : X) → None ≡ Some x → ⊥
none_some x e = cc

pub returns-then-before-sequence-clause-noted : goal.returns-then-before-sequence-clause-noted
returns-then-before-sequence-clause-noted c = noted_before c.args.greatest.now c.args.item.now c.in-Some.before.now
    (ap (value_at uid_cmp c.args.greatest.now) (sym c.uid.ensures) ∙ sym c.in-Some.ensures)
    (subst (λ (i : Item). i.eff ≤ c.in-Some.before.now) c.item.ensures c.if-before-sequence.true)

pub returns-clause-noted : goal.returns-clause-noted
returns-clause-noted c = noted_with c.args.greatest.now c.insert.new.self c.args.item.now c.in_ok-clone.field-0 c.item.result.now.eff
    (c.in_ok-clone.ensures.cases ∙ c.uid-2.ensures) (let e = ap (λ (i : Item). i.eff) c.item.ensures in omega (arith, e))
    (λ m there. elim c.match-get.branch [
      | in-Some+else-before-sequence w ↦
          let same : w.in-Some.before.now ≡ m = some_one w.in-Some.before.now m
          (w.in-Some.ensures ∙ ap (value_at uid_cmp c.args.greatest.now) c.uid.ensures ∙ there) in
          omega (arith, same, w.if-before-sequence.false)
      | in_default w ↦ absurd (none_some m (w.in_default.ensures ∙ ap (value_at uid_cmp c.args.greatest.now) c.uid.ensures ∙ there))
    ])
    c.in_ok-insert.ensures.updates
