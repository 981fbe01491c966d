use Rattle.std.proofs.Common.{sym, ◌∙◌, ap}
use Rattle.itip_items.specs.declared.item.Item.{Item}
use Rattle.itip_state.specs.Held.{kills}
use Rattle.itip_state.specs.Due.{has}
use Rattle.itip_state.proofs.Members.{when_ok}
use Rattle.itip_state.proofs.Dying.{settled_out, left_out, settled_alive, put_keeps, put_there}
use Rattle.itip_state.proofs.due.settle.Goals as goal

pub returns-then-is_dead_below-clause-due : goal.returns-then-is_dead_below-clause-due
returns-then-is_dead_below-clause-due c = λ t. settled_out c.args.series.now c.args.entries.now.map c.args.slot c.remove.new.self.map
    c.remove.ensures.without c.args.due.now c.requires

pub returns-then-is_dead_below-clause-left : goal.returns-then-is_dead_below-clause-left
returns-then-is_dead_below-clause-left c =
    left_out c.args.series.now c.args.entries.now.map c.args.slot c.remove.new.self.map c.remove.ensures.without c.in-Some.best.now
    (sym c.in-Some.ensures)
    (ap (λ k. kills c.args.series.now k c.in-Some.best.now.value) (sym c.key.ensures) ∙
    ap (kills c.args.series.now c.key.result.now) (sym c.item-item.ensures) ∙ sym c.is_dead_below.ensures ∙ c.if-is_dead_below.true)

pub returns-clause-due : goal.returns-clause-due
returns-clause-due c = λ put.
    let updates = when_ok c.insert.result c.insert.ensures.updates (sym c.is_ok.ensures.value ∙ put) in
    settled_alive c.args.series.now c.args.entries.now.map c.args.slot c.args.due.now c.insert.new.self c.in-Some.best.now
    (sym c.in-Some.ensures) c.requires
    (ap (λ (i : Item). has c.insert.new.self (i.eff, c.args.slot)) (sym c.item-item.ensures) ∙
    put_there c.args.due.now c.insert.new.self (c.item-item.result.now.eff, c.args.slot) updates)
    (put_keeps c.args.due.now c.insert.new.self _ updates)
