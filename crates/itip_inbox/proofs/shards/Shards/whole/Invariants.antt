use Rattle.std.proofs.Common.{◌≡◌, List, ◌++◌, vec_len}
use Rattle.itip_items.specs.declared.item.Item.{Item}
use Rattle.itip_state.specs.Kept.{AreKept}
use Rattle.itip_inbox.specs.Shards.{kept_in}
use Rattle.itip_inbox.proofs.shards.Shards.whole.Given as goal

-- what was merged is what is kept of the last shards
abbrev pub invariant-loop-shard : goal.invariant-loop-shard
invariant-loop-shard l = record {
  behind : List Item;
  keeps : AreKept l.whole behind;
  all : kept_in l.shards.items ++ behind ≡ l.fn.self;
}

abbrev pub decreases-loop-shard : goal.decreases-loop-shard
decreases-loop-shard l = vec_len l.shards
