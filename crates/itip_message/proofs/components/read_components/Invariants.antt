use Rattle.std.proofs.Common.{List, drop, ◌+◌, ◌++◌}
use Rattle.itip_todo.specs.declared.todo.Todo.{Todo}
use Rattle.itip_message.specs.Message.{AreComponents, FirstRefused}
use Rattle.itip_message.specs.declared.error.MessageRefusal.{MessageRefusal}
use Rattle.itip_message.proofs.components.read_components.Given as goal

abbrev pub invariant-loop-at : goal.invariant-loop-at
invariant-loop-at l = record {
  found : (more : List Todo) → AreComponents l.method (drop l.at l.components) more →
      AreComponents l.method l.components (l.all.items ++ more);
  refused : (f : MessageRefusal) → FirstRefused l.method (l.at + 1) (drop l.at l.components) f → FirstRefused l.method 1 l.components f;
}
