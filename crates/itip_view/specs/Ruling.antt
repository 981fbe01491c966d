-- How the range items of a UID that stand are held, so that the one that rules a moment is found by a binary search (our own form).
use Rattle.std.specs.Prelude.{◌≡◌, ◌≤◌, ◌<◌, ℕ, false, List, length, slice_index_or}
use Rattle.std.specs.List.{Contains}
use Rattle.std.specs.Ordering.{nat_cmp, is_gt, then_cmp, on}
use Rattle.std.specs.Cmp.Lexicographic.{slice_cmp}
use Rattle.std.specs.declared.cmp.Ordering.{Ordering}
use Rattle.itip_moment.specs.Moment.{moment_form, moment_zone, form_rank}
use Rattle.itip_moment.specs.Order.{moment_cmp}
use Rattle.itip_moment.specs.declared.moment.Moment.{Moment}
use Rattle.itip_items.specs.declared.item.Item.{Item}
use Rattle.itip_state.specs.OfUid.{UidPart}
use Rattle.itip_view.specs.Standing.{StandsFrom, Rules}
use Rattle.itip_view.specs.declared.ranges.RangeFrom.{RangeFrom}

-- by form, then by zone
abbrev pub form_cmp : Moment → Moment → Ordering
form_cmp = then_cmp (on (λ m. form_rank (moment_form m)) nat_cmp) (on moment_zone (slice_cmp nat_cmp))

-- by form and zone, then in the order of moments
abbrev pub range_cmp : Moment → Moment → Ordering
range_cmp = then_cmp form_cmp moment_cmp

-- these are exactly the range items that stand
pub record AreRanges (part : UidPart) (found : List RangeFrom) : Type 0 where
  pub each : (range : RangeFrom) → Contains found range → StandsFrom part.items part.uid range.id.now range.item.now
  pub all : (id : Moment) (item : Item) → StandsFrom part.items part.uid id item
      → (range : RangeFrom) × Contains found range × (range.id.now ≡ id) × (range.item.now ≡ item)

-- sorted by their ids
abbrev pub AscendRanges : List RangeFrom → Type 0
AscendRanges found = (i j : ℕ) (d : RangeFrom) → i ≤ j → j < length found
    → is_gt (range_cmp (slice_index_or found i d).id.now (slice_index_or found j d).id.now) ≡ false

pub record AreRangesInOrder (part : UidPart) (found : List RangeFrom) : Type 0 where
  pub ascend : AscendRanges found
  pub are : AreRanges part found

-- the range item at this index rules the moment
pub record RulesAt (part : UidPart) (found : List RangeFrom) (at : Moment) (place : ℕ) : Type 0 where
  pub range : RangeFrom
  pub inside : place < length found
  pub is : slice_index_or found place range ≡ range
  pub rules : Rules part.items part.uid at range.id.now range.item.now
