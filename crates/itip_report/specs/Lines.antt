-- Reports over items (our own format): a line for each item reported, by place.
use Rattle.std.specs.Prelude.{◌≡◌, ℕ, List, map}
use Rattle.std.specs.List.{Contains, AllPairs}
use Rattle.std.specs.Option.{option_cmp}
use Rattle.std.specs.Ordering.{nat_cmp, ordering_then}
use Rattle.std.specs.Cmp.Lexicographic.{slice_cmp}
use Rattle.std.specs.declared.cmp.Ordering.{Ordering}
use Rattle.std.specs.declared.cmp.Ordering.TheVariants.{Less}
use Rattle.itip_moment.specs.Order.{moment_cmp}
use Rattle.itip_items.specs.KeyParts.{uid_of, rank_of, instance_of, attendee_of}
use Rattle.itip_items.specs.declared.item.Item.{Item}
use Rattle.itip_items.specs.declared.key.Key.{Key}

-- the order of places: by UID, then the to-do as a whole before its instances and ranges by moment, then by attendee, then by rank: an
-- instance before a range, and an answer before a refresh request
abbrev pub place_cmp : Key → Key → Ordering
place_cmp a b =
    ordering_then (slice_cmp nat_cmp (uid_of a) (uid_of b))
    (ordering_then (option_cmp moment_cmp (instance_of a) (instance_of b))
    (ordering_then (slice_cmp nat_cmp (attendee_of a) (attendee_of b)) (nat_cmp (rank_of a) (rank_of b))))

-- items by place, each once
abbrev pub AscendPlaces : List Item → Type 0
AscendPlaces = AllPairs (λ (a b : Item). place_cmp a.key b.key ≡ Less)

-- the items are exactly the reported ones, by place, each once
pub record AreReported (IsReported : Item → Type 0) (items : List Item) : Type 0 where
  pub ascend : AscendPlaces items
  pub each : (item : Item) → Contains items item → IsReported item
  pub all : (item : Item) → IsReported item → Contains items item

-- the lines of exactly the reported items, by place
pub record AreLinesOf (IsReported : Item → Type 0) (line_of : Item → List ℕ) (lines : List (List ℕ)) : Type 0 where
  pub items : List Item
  pub reported : AreReported IsReported items
  pub lines_are : lines ≡ map line_of items
