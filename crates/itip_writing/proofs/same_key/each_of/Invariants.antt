use Rattle.std.proofs.Common.{◌≡◌, map, take}
use Rattle.itip_writing.proofs.same_key.each_of.Given as goal

abbrev pub invariant-loop-todo : goal.invariant-loop-todo
invariant-loop-todo l = map (λ todo. todo.now) l.all.items ≡ take l.todo-index l.draft
