use Rattle.std.proofs.Common.{◌∙◌, map, take_all, subst}
use Rattle.itip_todo.specs.Table.{attendee_key}
use Rattle.itip_view.specs.declared.row.ShownAttendee.{ShownAttendee}
use Rattle.itip_report.specs.Tally.{IsTally}
use Rattle.itip_report.proofs.Tallying.{end_row}
use Rattle.itip_report.proofs.load.count_attendees.Goals as goal

pub returns-clause-counted : goal.returns-clause-counted
returns-clause-counted c = λ done long tally.
    let all = take_all c.loop-attendee.attendee-index c.as_slice-attendee-items.result.now c.loop-attendee-test.false ∙
    c.as_slice-attendee-items.ensures in
    end_row done c.args.row.now c.loop-attendee.tally.keys.items c.loop-attendee.tally.counts
    (subst (λ xs. IsTally done (map (λ (a : ShownAttendee). attendee_key a.address) xs) c.loop-attendee.tally.keys.items
    c.loop-attendee.tally.counts) all (c.loop-attendee.invariant done long tally))
