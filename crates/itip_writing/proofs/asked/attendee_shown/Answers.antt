use Rattle.std.proofs.Common.{◌≡◌, ◌∙◌, true, false, List, sym, subst, take_all}
use Rattle.std.specs.List.{Contains}
use Rattle.itip_view.specs.declared.row.ShownAttendee.{ShownAttendee}
use Rattle.itip_writing.specs.Replying.{IsOfAddress}
use Rattle.itip_state.proofs.Members.{none_in}
use Rattle.itip_writing.proofs.Faults.{none_more}
use Rattle.itip_writing.proofs.asked.attendee_shown.Goals as goal

pub loop-attendee-init : goal.loop-attendee-init
loop-attendee-init c = λ one h of. none_in one h

pub returns-then-is_of_address : goal.returns-then-is_of_address
returns-then-is_of_address c = (
  (c.loop-attendee.attendee-index, c.loop-attendee-test.true, sym c.attendee-item.is),
  c.is_of_address.ensures.0 c.if-is_of_address.true,
)

pub loop-attendee-preserved : goal.loop-attendee-preserved
loop-attendee-preserved c =
    none_more (IsOfAddress c.args.address.now) c.args.shown.now c.loop-attendee.attendee-index c.attendee-item.result
    c.loop-attendee-test.true c.attendee-item.is c.loop-attendee.invariant
    (λ of. let x : false ≡ true = sym c.if-is_of_address.false ∙ c.is_of_address.ensures.1 of in absurd cc)

pub returns : goal.returns
returns c = λ one h of.
    c.loop-attendee.invariant one
    (subst (λ (xs : List ShownAttendee). Contains xs one)
    (sym (take_all c.loop-attendee.attendee-index c.args.shown.now c.loop-attendee-test.false)) h) of
