use Rattle.std.proofs.Common.{length, take}
use Rattle.itip_state.specs.Kept.{SameItems}
use Rattle.itip_inbox.specs.Ranges.{EachAscends, items_in}
use Rattle.itip_inbox.specs.Shards.{kept_in}
use Rattle.itip_inbox.proofs.shards.sorted_each.Given as goal

abbrev pub invariant-loop-list : goal.invariant-loop-list
invariant-loop-list g l = record {
  ascend : EachAscends l.lists.items;
  same : SameItems (items_in l.lists.items) (kept_in (take (length l.yielded) l.shards));
}
