use Rattle.std.proofs.Common.{Bool, ◌&&◌, ap, ◌∙◌, sym, subst}
use Rattle.itip_message.specs.Scanned.{is_empty}
use Rattle.itip_message.specs.Passing.{Passes}
use Rattle.itip_message.proofs.Messages.{pass_line, message_ends, no_message, last_message}
use Rattle.itip_message.proofs.cutting.next_message.Goals as goal

pub returns-then-ends_calendar : goal.returns-then-ends_calendar
returns-then-ends_calendar c =
    message_ends c.args.bytes.now c.loop-line.rest.now c.in-Some.line.now c.in-Some.after.now c.loop-line.all_empty c.loop-line.invariant
    c.in-Some.ensures (sym c.ends_calendar.ensures ∙ c.if-ends_calendar.true)

pub loop-line-preserved-then-all_empty : goal.loop-line-preserved-then-all_empty
loop-line-preserved-then-all_empty c =
    let passed = pass_line c.args.bytes.now c.loop-line.rest.now c.in-Some.line.now c.in-Some.after.now c.loop-line.all_empty
    c.loop-line.invariant c.in-Some.ensures (sym c.ends_calendar.ensures ∙ c.if-ends_calendar.false) in
    subst (λ (b : Bool). Passes c.args.bytes.now c.in-Some.after.now b)
    (ap (λ (t : Bool). t && is_empty c.in-Some.line.now) c.if-all_empty.true ∙ sym c.is_empty-all_empty.ensures) passed

pub loop-line-preserved : goal.loop-line-preserved
loop-line-preserved c =
    let passed = pass_line c.args.bytes.now c.loop-line.rest.now c.in-Some.line.now c.in-Some.after.now c.loop-line.all_empty
    c.loop-line.invariant c.in-Some.ensures (sym c.ends_calendar.ensures ∙ c.if-ends_calendar.false) in
    subst (λ (b : Bool). Passes c.args.bytes.now c.in-Some.after.now b)
    (ap (λ (t : Bool). t && is_empty c.in-Some.line.now) c.if-all_empty.false ∙ sym c.if-all_empty.false) passed

pub returns-then-all_empty-2 : goal.returns-then-all_empty-2
returns-then-all_empty-2 c =
    no_message c.args.bytes.now c.loop-line.rest.now c.loop-line.all_empty c.loop-line.invariant c.in_default.ensures c.if-all_empty-2.true

pub returns-else-all_empty-2 : goal.returns-else-all_empty-2
returns-else-all_empty-2 c =
    last_message c.args.bytes.now c.loop-line.rest.now c.loop-line.all_empty c.loop-line.invariant c.in_default.ensures
    c.if-all_empty-2.false
