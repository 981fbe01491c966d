use Rattle.std.proofs.Common.{◌≤◌, ◌∙◌, sym, ap, subst, inl, inr}
use Rattle.itip_items.specs.declared.item.Item.{Item}
use Rattle.itip_state.specs.Held.{can_die}
use Rattle.itip_state.proofs.Dying.{past_by}
use Rattle.itip_state.proofs.due.share_if_under.Goals as goal
use Rattle.itip_state.proofs.due.share_if_under.Goals.{else-can_die-via-then-can_die+else-item-sequence, else-can_die-via-else-can_die}

pub returns-else-can_die : goal.returns-else-can_die
returns-else-can_die c = past_by c.args.sequence c.args.slot.now c.args.best.now c.args.items.now.items
    (elim c.else-can_die.branch [
      | else-can_die-via-then-can_die+else-item-sequence w ↦ inr
          (subst (λ (i : Item). c.args.sequence ≤ i.eff) w.item.ensures w.if-item-sequence.false)
      | else-can_die-via-else-can_die w ↦ inl (ap can_die (sym c.key.ensures) ∙ sym c.can_die.ensures ∙ w.if-can_die.false)
    ])
