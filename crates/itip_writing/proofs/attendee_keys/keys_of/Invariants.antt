use Rattle.std.proofs.Common.{take}
use Rattle.std.specs.String.{string_bytes}
use Rattle.itip_todo.specs.Table.{attendee_key}
use Rattle.itip_writing.specs.Removing.{HasKeys}
use Rattle.itip_writing.proofs.attendee_keys.keys_of.Given as goal

-- the keys of those so far
abbrev pub invariant-loop-address : goal.invariant-loop-address
invariant-loop-address l = HasKeys (λ address. attendee_key (string_bytes address)) (take l.address-index l.addresses) l.keys
