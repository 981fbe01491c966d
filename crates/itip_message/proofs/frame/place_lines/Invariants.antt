use Rattle.std.proofs.Common.{◌≡◌, ◌∷◌, [], length}
use Rattle.std.specs.Vec.Iter.{into_iter_items, into_iter_len}
use Rattle.itip_message.specs.Frame.{place, with_front, innermost_first}
use Rattle.itip_message.proofs.frame.place_lines.Given as goal

abbrev pub invariant-loop-line : goal.invariant-loop-line
invariant-loop-line l = record {
  length_is : into_iter_len l.line-iterator ≡ length (into_iter_items l.line-iterator);
  completes : with_front l.placed.items (place (innermost_first l.inside.items) (into_iter_items l.line-iterator)) ≡ place (l.fn.name ∷ [])
      (into_iter_items l.initial.line-iterator);
}
