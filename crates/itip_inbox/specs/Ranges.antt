-- Ascending lists of items, cut at a pivot into what is before it and the rest (our own form).
use Rattle.std.specs.Prelude.{◌≡◌, List, ◌++◌, ◌↔◌, ◌⊎◌}
use Rattle.std.specs.List.{Contains, All, flat_map}
use Rattle.std.specs.Global.{Vec}
use Rattle.std.specs.declared.cmp.Ordering.TheVariants.{Less}
use Rattle.itip_items.specs.declared.item.Item.{Item}
use Rattle.itip_items.specs.OctetOrder.{octets_cmp}
use Rattle.itip_desk.specs.Octets.{AscendOctets}

-- the items of all lists
abbrev pub items_in : List (Vec Item) → List Item
items_in = flat_map (λ (list : Vec Item). list.items)

-- each of the lists is sorted by canonical bytes, and has each item once
abbrev pub EachAscends : List (Vec Item) → Type 0
EachAscends = All (λ (list : Vec Item). AscendOctets list.items)

abbrev pub IsBefore : Item → Item → Type 0
IsBefore i j = octets_cmp i j ≡ Less

-- an ascending list, cut into the items before a pivot and the rest
pub record IsCut (pivot : Item) (items front back : List Item) : Type 0 where
  pub whole : items ≡ front ++ back
  pub before : All (λ (item : Item). IsBefore item pivot) front
  pub behind : All (λ (item : Item). ¬ IsBefore item pivot) back

-- ascending lists, cut into lists of the items before a pivot and lists of the rest
pub record AreCut (pivot : Item) (lists fronts backs : List (Vec Item)) : Type 0 where
  pub fronts_ascend : EachAscends fronts
  pub backs_ascend : EachAscends backs
  pub before : All (λ (item : Item). IsBefore item pivot) (items_in fronts)
  pub behind : All (λ (item : Item). ¬ IsBefore item pivot) (items_in backs)
  pub same : (item : Item) → Contains (items_in lists) item ↔ (Contains (items_in fronts) item ⊎ Contains (items_in backs) item)
