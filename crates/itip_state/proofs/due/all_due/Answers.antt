use Rattle.std.proofs.Common.{rules, subst, true, ◌≡◌}
use Rattle.itip_items.specs.declared.item.Item.{Item}
use Rattle.itip_state.specs.Held.{can_die}
use Rattle.itip_state.specs.Due.{has}
use Rattle.itip_state.proofs.Dying.{all_left, one_put, all_put}
use Rattle.itip_state.proofs.due.all_due.Goals as goal

pub loop-slot-init : goal.loop-slot-init
loop-slot-init c = all_left _ c.args.entries.now.map _ (search rules)

pub loop-slot-preserved : goal.loop-slot-preserved
loop-slot-preserved c =
    one_put c.loop-slot.due c.put.new.due c.args.entries.now.map c.loop-slot.slot-iterator c.next.new.self c.in-Some.slot.now
    c.in-Some.best.now c.in-Some.ensures.steps
    (subst (λ (i : Item). can_die c.in-Some.slot.now ≡ true → has c.put.new.due (i.eff, c.in-Some.slot.now) ≡ true) c.item.ensures
    c.in_ok-put.ensures.put)
    c.put.ensures.keeps c.loop-slot.invariant

pub returns : goal.returns
returns c = all_put c.loop-slot.due c.args.entries.now.map c.loop-slot.slot-iterator c.in-None.ensures.steps.0 c.loop-slot.invariant
