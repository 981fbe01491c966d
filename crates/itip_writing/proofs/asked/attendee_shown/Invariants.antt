use Rattle.std.proofs.Common.{take}
use Rattle.std.specs.List.{Contains}
use Rattle.itip_view.specs.declared.row.ShownAttendee.{ShownAttendee}
use Rattle.itip_writing.specs.Replying.{IsOfAddress}
use Rattle.itip_writing.proofs.asked.attendee_shown.Given as goal

-- none so far is that of the address
abbrev pub invariant-loop-attendee : goal.invariant-loop-attendee
invariant-loop-attendee l = (one : ShownAttendee) → Contains (take l.attendee-index l.shown) one → IsOfAddress l.address one → ⊥
