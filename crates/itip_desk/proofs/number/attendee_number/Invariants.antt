use Rattle.std.proofs.Common.{◌≡◌, take}
use Rattle.itip_todo.specs.Table.{attendee_key}
use Rattle.itip_desk.specs.Numbers.{text_number}
use Rattle.itip_desk.proofs.number.attendee_number.Given as goal

abbrev pub invariant-loop-octet : goal.invariant-loop-octet
invariant-loop-octet l = l.number ≡ text_number (take l.octet-index (attendee_key l.address))
