use Rattle.std.proofs.Common.{◌≡◌, List, [], length, map, take}
use Rattle.itip_todo.specs.Table.{attendee_key}
use Rattle.itip_view.specs.declared.row.Row.{Row}
use Rattle.itip_view.specs.declared.row.ShownAttendee.{ShownAttendee}
use Rattle.itip_report.specs.Tally.{IsTally}
use Rattle.itip_report.proofs.load.count_attendees.Given as goal

abbrev pub invariant-loop-attendee : goal.invariant-loop-attendee
invariant-loop-attendee l =
    (done : List Row) → length done ≡ l.place → IsTally done [] l.initial.tally.keys.items l.initial.tally.counts
    → IsTally done (map (λ (a : ShownAttendee). attendee_key a.address) (take l.attendee-index l.attendee-items)) l.tally.keys.items
    l.tally.counts
