use Rattle.std.proofs.Common.{◌++◌, take}
use Rattle.itip_state.specs.Kept.{AreKept}
use Rattle.itip_inbox.specs.ShardOf.{AreOfShard, of_shard}
use Rattle.itip_inbox.proofs.shard.hear_at.Given as goal

abbrev pub invariant-loop-item : goal.invariant-loop-item
invariant-loop-item l = record {
  hears : AreKept l.state (l.fn.state ++ of_shard l.count l.number (take l.item-index l.items));
  stays : AreOfShard l.count l.number l.fn.state → AreOfShard l.count l.number l.state;
}
