use Rattle.std.proofs.Common.{◌⊎◌, map, take}
use Rattle.std.specs.List.{Contains}
use Rattle.std.specs.Vec.Iter.{into_iter_items}
use Rattle.itip_items.specs.declared.item.Item.{Item}
use Rattle.itip_desk.proofs.indexed.changes_of.Given as goal

abbrev pub invariant-loop-item : goal.invariant-loop-item
invariant-loop-item l = (item : Item) → Contains l.fn.giving.items item →
    Contains (map (λ c. c.item) l.changes.items) item ⊎ Contains (into_iter_items l.item-iterator) item

abbrev pub invariant-loop-item-2 : goal.invariant-loop-item-2
invariant-loop-item-2 l = record {
  giving : (item : Item) → Contains l.fn.giving.items item → Contains (map (λ c. c.item) l.changes.items) item;
  found : (item : Item) → Contains (take l.item-index (map (λ item. item.now) l.found)) item →
      Contains (map (λ c. c.item) l.changes.items) item;
}
