-- Told items, sorted so that binary search finds the latest of a key (our own form): by key, the latest of each key first, and equal
-- ones in the order told.
use Rattle.std.specs.Prelude.{◌≡◌, List, map, Bool}
use Rattle.std.specs.List.{Contains}
use Rattle.std.specs.List.Sorted.{IsPermutation, IsSortedBy, IsStableBy}
use Rattle.std.specs.Ordering.{is_lt, ordering_then}
use Rattle.std.specs.declared.cmp.Ordering.{Ordering}
use denote.Ref.{Bor}
use Rattle.itip_items.specs.RevisionOrder.{revision_cmp, IsLater}
use Rattle.itip_items.specs.declared.item.Item.{Item}
use Rattle.itip_report.specs.Lines.{place_cmp}
use Rattle.itip_explain.specs.declared.latest.Latest.{Latest}
use Rattle.itip_explain.specs.declared.told.ToldItem.{ToldItem}

abbrev pub told_cmp : ToldItem → ToldItem → Ordering
told_cmp a b = ordering_then (place_cmp a.item.key b.item.key) (revision_cmp b.item a.item)

abbrev pub is_before : Bor ToldItem → Bor ToldItem → Bool
is_before a b = is_lt (told_cmp a.now b.now)

-- a stable sort of what was given
pub record AreLatestFirst (given sorted : List (Bor ToldItem)) : Type 0 where
  pub moved : IsPermutation given sorted
  pub up : IsSortedBy is_before sorted
  pub stable : IsStableBy is_before given sorted

-- the told items are held in this order
pub record IsInOrder (latest : Latest) : Type 0 where
  pub given : List (Bor ToldItem)
  pub given_are : map (λ one. one.now) given ≡ latest.told.now
  pub order : AreLatestFirst given latest.sorted.items

-- for each key some of the sorted items are picked, the latest among them
pub record ArePicked (from picked : List (Bor ToldItem)) : Type 0 where
  pub each : (one : Bor ToldItem) → Contains picked one → Contains from one
  pub all : (one : Bor ToldItem) → Contains from one → (pick : Bor ToldItem) × Contains picked pick
      × (pick.now.item.key ≡ one.now.item.key) × (¬ IsLater one.now.item pick.now.item)

-- the items of some told items
abbrev pub items_in : List (Bor ToldItem) → List Item
items_in told = map (λ one. one.now.item) told
