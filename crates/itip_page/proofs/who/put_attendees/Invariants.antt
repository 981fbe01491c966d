use Rattle.std.proofs.Common.{◌≡◌, ◌++◌, take}
use Rattle.std.specs.List.{flat_map}
use Rattle.itip_page.specs.RowMarkup.{attendee_markup}
use Rattle.itip_page.proofs.who.put_attendees.Given as goal

abbrev pub invariant-loop-attendee : goal.invariant-loop-attendee
invariant-loop-attendee l = l.out.items ≡ l.initial.out.items ++ flat_map attendee_markup (take l.attendee-index l.attendees)
