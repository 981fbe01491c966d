use Rattle.std.proofs.Common.{◌≡◌, ◌≤◌, ◌+◌, ℕ, List, [], length, map}
use Rattle.std.specs.Vec.Iter.{into_iter_items, into_iter_len}
use Rattle.std.specs.List.{AllByRecursion}
use Rattle.itip_todo.specs.PartsOf.{parts_of}
use Rattle.itip_items.specs.Given.{Adds, FirstOver, drafts_each}
use Rattle.itip_items.specs.MethodNeeds.{Suits}
use Rattle.itip_items.specs.declared.item.Item.{Item}
use Rattle.itip_items.proofs.Adding.{drafts_among}
use Rattle.itip_items.proofs.make.make_several.Given as goal

abbrev pub invariant-loop-todo : goal.invariant-loop-todo
invariant-loop-todo l =
    let all = map parts_of (into_iter_items l.initial.todo-iterator) in
    let rest = map parts_of (into_iter_items l.todo-iterator) in
    record {
      length_is : into_iter_len l.todo-iterator ≡ length (into_iter_items l.todo-iterator);
      suits : AllByRecursion (Suits l.fn.method) rest;
      found : (new : List Item) → Adds (drafts_among l.fn.method all rest) l.items.items new →
          Adds (drafts_among l.fn.method all all) [] new;
      left_is : l.left ≡ length (into_iter_items l.todo-iterator);
      few : l.left ≤ l.count;
      over : (at todo : ℕ) → at + l.left ≡ l.count + 1 → FirstOver at (drafts_each l.fn.method all rest) todo →
          FirstOver 1 (drafts_each l.fn.method all all) todo;
    }
