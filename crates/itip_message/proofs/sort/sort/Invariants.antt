use Rattle.std.proofs.Common.{◌≡◌, length}
use Rattle.std.specs.Vec.Iter.{into_iter_items, into_iter_len}
use Rattle.itip_message.specs.Frame.{calendar_lines, todos as all_todos}
use Rattle.itip_message.specs.Sorting.{calendar_with, todos_with}
use Rattle.itip_message.proofs.sort.sort.Given as goal

abbrev pub invariant-loop-place : goal.invariant-loop-place
invariant-loop-place l = record {
  length_is : into_iter_len l.place-iterator ≡ length (into_iter_items l.place-iterator);
  calendar : calendar_with l.sorted (into_iter_items l.place-iterator) ≡ calendar_lines (into_iter_items l.initial.place-iterator);
  todos : todos_with l.sorted (into_iter_items l.place-iterator) ≡ all_todos (into_iter_items l.initial.place-iterator);
}
