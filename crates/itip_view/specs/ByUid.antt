-- Rows, one UID at a time (our own form): those that are left of what was asked for, and how many there are.
use Rattle.std.specs.Prelude.{◌≡◌, ◌↔◌, ◌≤◌, ℕ, List, [], ◌∷◌, ◌++◌, length, drop, map, Option, Some, None}
use Rattle.itip_items.specs.declared.item.Item.{Item}
use Rattle.itip_view.specs.ListText.{list_text}
use Rattle.itip_view.specs.UidWithMostRows.{HasMost}
use Rattle.itip_view.specs.Rows.{IsRow, row_limit}
use Rattle.itip_view.specs.Showing.{AreRowsWhere, AreTooManyWhere, IsAmong, IsOf}
use Rattle.itip_view.specs.Wanting.{Wants}
use Rattle.itip_view.specs.declared.by_uid.RowsByUid.{RowsByUid}
use Rattle.itip_view.specs.declared.row_count.RowCount.{RowCount}
use Rattle.itip_view.specs.declared.row_count.RowCount.TheVariants.{Few, TooMany}
use Rattle.itip_view.specs.declared.row.Row.{Row}
use Rattle.itip_view.specs.declared.window.Window.{Window}

-- the UIDs that are left
abbrev pub uids_of : RowsByUid → List (List ℕ)
uids_of asked = drop asked.done (map (λ uid. uid.now) asked.uids.items)

-- how many there are
abbrev pub uids_left : RowsByUid → ℕ
uids_left asked = length (uids_of asked)

-- a wanted row of a UID that is left
abbrev pub IsAskedFor : RowsByUid → Row → Type 0
IsAskedFor asked = IsAmong (uids_of asked) (Wants asked.wanted)

-- the rows that are left, in their order, each once
abbrev pub AreLeft : RowsByUid → List Row → Type 0
AreLeft asked rows = AreRowsWhere (IsAskedFor asked) asked.state.now asked.window rows

-- of the rows of this set in this window, those for which P holds are asked for
pub record AreAsked (P : Row → Type 0) (heard : List Item) (window : Window) (asked : RowsByUid) : Type 0 where
  pub state_is : asked.state.now ≡ heard
  pub window_is : asked.window ≡ window
  pub alike : (row : Row) → IsRow heard window row → IsAskedFor asked row ↔ P row

-- These are all wanted rows of the first UID that was left, and the other UIDs are left now. So these rows come before the rows that
-- are left.
pub record IsPart (old new : RowsByUid) (rows : List Row) : Type 0 where
  pub uid : List ℕ
  pub uids_are : uids_of old ≡ uid ∷ uids_of new
  pub state_is : new.state ≡ old.state
  pub window_is : new.window ≡ old.window
  pub wanted_is : new.wanted ≡ old.wanted
  pub are_rows : AreRowsWhere (IsOf uid (Wants old.wanted)) old.state.now old.window rows
  pub joins : (rest : List Row) → AreLeft new rest → AreLeft old (rows ++ rest)
  pub splits : (all : List Row) → AreLeft old all → (rest : List Row) × AreLeft new rest × (all ≡ rows ++ rest)

-- no UID is left, so no row is; and nothing has changed, so it stays that way
pub record IsDone (old new : RowsByUid) : Type 0 where
  pub no_uid : uids_of old ≡ []
  pub no_row : (rows : List Row) → AreLeft old rows ↔ (rows ≡ [])
  pub same : new ≡ old

-- the rows of the next UID, or none is left
abbrev pub IsNextOf : RowsByUid → RowsByUid → Option (List Row) → Type 0
IsNextOf old new None = IsDone old new
IsNextOf old new (Some rows) = IsPart old new rows

-- `number` rows are left, which is no more than a list may have
pub record AreFewLeft (asked : RowsByUid) (number : ℕ) : Type 0 where
  pub rows : List Row
  pub are_left : AreLeft asked rows
  pub number_is : length rows ≡ number
  pub few : number ≤ row_limit

-- more rows are left than a list may have
abbrev pub AreTooManyLeft : RowsByUid → Type 0
AreTooManyLeft asked = AreTooManyWhere (IsAskedFor asked) asked.state.now asked.window

-- how many rows are left; or there are too many, and which to-do has the most of them
abbrev pub IsCountOf : RowsByUid → RowCount → Type 0
IsCountOf asked (Few number) = AreFewLeft asked number
IsCountOf asked (TooMany most) = AreTooManyLeft asked × HasMost (IsAskedFor asked) asked.state.now asked.window most

-- the text of the rows that are left, if there are not too many
pub record IsTextLeft (asked : RowsByUid) (text : List ℕ) : Type 0 where
  pub rows : List Row
  pub are_left : AreLeft asked rows
  pub few : length rows ≤ row_limit
  pub text_is : text ≡ list_text rows
