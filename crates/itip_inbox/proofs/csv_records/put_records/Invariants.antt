use Rattle.std.proofs.Common.{◌≡◌, ◌++◌, take}
use Rattle.std.specs.List.{flat_map}
use Rattle.itip_inbox.specs.Csv.{attendee_record_text}
use Rattle.itip_inbox.proofs.csv_records.put_records.Given as goal

abbrev pub invariant-loop-attendee : goal.invariant-loop-attendee
invariant-loop-attendee l =
    l.out.items ≡ l.initial.out.items ++ flat_map (attendee_record_text l.row) (take l.attendee-index l.attendees)
