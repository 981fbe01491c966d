-- The order of states (our own rule): one is below another if hearing its items adds nothing to the other.
use Rattle.std.specs.Prelude.{List, ◌++◌}
use Rattle.itip_items.specs.declared.item.Item.{Item}
use Rattle.itip_state.specs.Kept.{AreKept}

-- a set that keeps each of its items
abbrev pub IsState : List Item → Type 0
IsState state = AreKept state state

-- hearing the items of the lower adds nothing to the upper
abbrev pub IsBelow : List Item → List Item → Type 0
IsBelow lower upper = AreKept upper (lower ++ upper)

-- above both, and below each state that is above both
pub record IsLeastUpperBound (x y bound : List Item) : Type 0 where
  pub is_state : IsState bound
  pub above_first : IsBelow x bound
  pub above_second : IsBelow y bound
  pub least : (other : List Item) → IsState other → IsBelow x other → IsBelow y other → IsBelow bound other
