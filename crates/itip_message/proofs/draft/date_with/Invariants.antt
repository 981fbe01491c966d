use Rattle.std.proofs.Common.{◌≡◌, ◌++◌, length, map}
use Rattle.std.specs.Vec.Iter.{into_iter_items, into_iter_len}
use Rattle.itip_message.specs.Drafts.{dated}
use Rattle.itip_message.proofs.draft.date_with.Given as goal

abbrev pub invariant-loop-component : goal.invariant-loop-component
invariant-loop-component l = record {
  length_is : into_iter_len l.component-iterator ≡ length (into_iter_items l.component-iterator);
  whole : l.all.items ++ map (dated l.stamp) (into_iter_items l.component-iterator) ≡
      map (dated l.stamp) (into_iter_items l.initial.component-iterator);
}
