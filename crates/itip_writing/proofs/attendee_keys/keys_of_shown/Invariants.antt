use Rattle.std.proofs.Common.{take}
use Rattle.itip_todo.specs.Table.{attendee_key}
use Rattle.itip_writing.specs.Removing.{HasKeys}
use Rattle.itip_writing.proofs.attendee_keys.keys_of_shown.Given as goal

-- the keys of those so far
abbrev pub invariant-loop-attendee : goal.invariant-loop-attendee
invariant-loop-attendee l = HasKeys (λ attendee. attendee_key attendee.address) (take l.attendee-index l.shown) l.keys
