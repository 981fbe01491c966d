-- The greatest effective sequence of the series items of each UID (our own form).
use Rattle.std.specs.Prelude.{◌≡◌, ◌≤◌, ℕ, List, Some, true}
use Rattle.std.specs.Ordering.{nat_cmp}
use Rattle.std.specs.Cmp.Lexicographic.{slice_cmp}
use Rattle.itip_items.specs.KeyParts.{uid_of}
use Rattle.itip_items.specs.declared.item.Item.{Item}
use Rattle.itip_join.specs.KeyByKey.{value_at}
use Rattle.itip_state.specs.Held.{is_series}

-- a map has a sequence for the UID that is no less than this one
pub record Reaches (greatest : List (List ℕ × ℕ)) (uid : List ℕ) (sequence : ℕ) : Type 0 where
  pub most : ℕ
  pub there : value_at (slice_cmp nat_cmp) greatest uid ≡ Some most
  pub no_less : sequence ≤ most

-- a map reaches what it did before, and the sequence of the item, if that is a series item
pub record AreNotedWith (old : List (List ℕ × ℕ)) (item : Item) (new : List (List ℕ × ℕ)) : Type 0 where
  pub still : (uid : List ℕ) (sequence : ℕ) → Reaches old uid sequence → Reaches new uid sequence
  pub reached : is_series item.key ≡ true → Reaches new (uid_of item.key) item.eff
