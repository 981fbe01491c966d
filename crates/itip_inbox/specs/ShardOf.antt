-- The shard of a UID, if what is kept is split into `count` shards (our own form; any function of the UID would do).
use Rattle.std.specs.Prelude.{◌≡◌, ℕ, ◌+◌, ◌*◌, ◌%◌, List, filter, fold, nat_eq}
use Rattle.std.specs.List.{Contains}
use Rattle.itip_items.specs.KeyParts.{uid_of}
use Rattle.itip_items.specs.declared.item.Item.{Item}

abbrev pub mixed : ℕ → ℕ → ℕ
mixed number octet = (number * 31 + octet) % 4294967296

-- a number made from some bytes
abbrev pub number_of : List ℕ → ℕ
number_of octets = fold mixed 0 octets

abbrev pub shard_of : ℕ → List ℕ → ℕ
shard_of count uid = number_of uid % count

-- the items whose UIDs are of shard `number` of `count`
abbrev pub of_shard : ℕ → ℕ → List Item → List Item
of_shard count number items = filter (λ item. nat_eq (shard_of count (uid_of item.key)) number) items

-- the UID of each item is of this shard
abbrev pub AreOfShard : ℕ → ℕ → List Item → Type 0
AreOfShard count number items = (item : Item) → Contains items item → shard_of count (uid_of item.key) ≡ number
