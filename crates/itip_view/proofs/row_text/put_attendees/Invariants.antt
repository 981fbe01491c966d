use Rattle.std.proofs.Common.{◌≡◌, ◌++◌, take}
use Rattle.std.specs.List.{flat_map}
use Rattle.itip_view.specs.ListText.{attendee_text}
use Rattle.itip_view.proofs.row_text.put_attendees.Given as goal

abbrev pub invariant-loop-attendee : goal.invariant-loop-attendee
invariant-loop-attendee l = l.out.items ≡ l.initial.out.items ++ flat_map attendee_text (take l.attendee-index l.attendees)
