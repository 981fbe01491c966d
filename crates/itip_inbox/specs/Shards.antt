-- What is kept, split into shards by UID (our own form).
use Rattle.std.specs.Prelude.{◌≡◌, ◌<◌, ℕ, List, [], ◌∷◌, ◌++◌, false, length, slice_index_or}
use Rattle.itip_items.specs.declared.item.Item.{Item}
use Rattle.itip_state.specs.Kept.{AreKept}
use Rattle.itip_inbox.specs.ShardOf.{AreOfShard, of_shard}
use Rattle.itip_inbox.specs.declared.shard.Shard.{Shard}

-- the items of all shards
abbrev pub kept_in : List Shard → List Item
kept_in [] = []
kept_in (shard ∷ shards) = shard.state ++ kept_in shards

-- there is at least one shard, and each has only items of its own number
pub record AreSharded (shards : List Shard) : Type 0 where
  pub some : 0 < length shards
  pub each : (number : ℕ) (d : Shard) → number < length shards → AreOfShard (length shards) number (slice_index_or shards number d).state

-- shard `number` of `count` hears the items that are of it, unless an allocation fails
pub record HearsShard (count number : ℕ) (items : List Item) (old new : Shard) : Type 0 where
  pub hears : new.is_refused ≡ false → AreKept new.state (old.state ++ of_shard count number items)
  pub stays : AreOfShard count number old.state → AreOfShard count number new.state
