use Rattle.std.proofs.Common.{◌≡◌, ◌++◌, take}
use Rattle.std.specs.List.{flat_map}
use Rattle.itip_todo.specs.PartsOf.{parts_of}
use Rattle.itip_todo.specs.Written.{contents_octets}
use Rattle.itip_writing.specs.Sent.{sent_front, sent_todo}
use Rattle.itip_writing.proofs.message.write_message.Given as goal

-- the to-dos so far are written
abbrev pub invariant-loop-todo : goal.invariant-loop-todo
invariant-loop-todo l = l.octets.items ≡ contents_octets (sent_front l.fn.method) ++
    contents_octets (flat_map (λ todo. sent_todo l.fn.method (parts_of todo)) (take l.todo-index l.all))
