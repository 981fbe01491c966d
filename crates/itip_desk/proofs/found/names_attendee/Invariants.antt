use Rattle.std.proofs.Common.{take}
use Rattle.std.specs.List.{Contains}
use Rattle.itip_todo.specs.Table.{attendee_key}
use Rattle.itip_todo.specs.Properties.{Property}
use Rattle.std.proofs.Common.{◌≡◌}
use Rattle.itip_desk.proofs.found.names_attendee.Given as goal

abbrev pub invariant-loop-line : goal.invariant-loop-line
invariant-loop-line l = (line : Property) → Contains (take l.line-index l.item.todo.attendees) line →
    attendee_key line.value ≡ attendee_key l.address → ⊥
