use Rattle.std.proofs.Common.{◌≡◌, ◌++◌, length}
use Rattle.std.specs.List.{filter}
use Rattle.std.specs.Vec.Iter.{into_iter_items, into_iter_len}
use Rattle.itip_message.specs.Drafts.{is_undated}
use Rattle.itip_message.proofs.draft.add_undated.Given as goal

abbrev pub invariant-loop-line : goal.invariant-loop-line
invariant-loop-line l = record {
  length_is : into_iter_len l.line-iterator ≡ length (into_iter_items l.line-iterator);
  whole : l.lines.items ++ filter is_undated (into_iter_items l.line-iterator) ≡
      l.fn.lines.items ++ filter is_undated (into_iter_items l.initial.line-iterator);
}
