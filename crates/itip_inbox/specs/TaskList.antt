-- The task list of some inputs, in some form (our own formats).
use Rattle.std.specs.Prelude.{◌≡◌, ◌≤◌, ◌⊎◌, ℕ, Bool, true, false, List, length}
use Rattle.itip_items.specs.declared.item.Item.{Item}
use Rattle.itip_view.specs.Rows.{row_limit}
use Rattle.itip_view.specs.Showing.{AreRowsWhere, AreTooManyWhere}
use Rattle.itip_view.specs.declared.row.Row.{Row}
use Rattle.itip_view.specs.declared.window.Window.{Window}
use Rattle.itip_desk.specs.Refusals.{refused_text}
use Rattle.itip_inbox.specs.OfInbox.{IsOfInbox}

-- the bytes of the rows of a window of which this holds, if there are not too many
pub record IsTextWhere (octets : List Row → List ℕ) (P : Row → Type 0) (heard : List Item) (window : Window) (text : List ℕ) : Type 0
  where
    pub rows : List Row
    pub are_rows : AreRowsWhere P heard window rows
    pub few : length rows ≤ row_limit
    pub text_is : text ≡ octets rows

-- The list of the rows of a window of which this holds; or `refused 31`, which is a refusal, if there are too many.
abbrev pub IsListed : (List Row → List ℕ) → (Row → Type 0) → List Item → Window → List ℕ → Bool → Type 0
IsListed octets P heard window text refusal =
    (IsTextWhere octets P heard window text × (refusal ≡ false))
    ⊎ (AreTooManyWhere P heard window × (text ≡ refused_text 31) × (refusal ≡ true))

-- The list over all messages of some inputs that are not refused, and whether a message or the list is.
abbrev pub IsTaskList : (Window → List Row → List ℕ) → (Row → Type 0) → List (List ℕ) → Window → List ℕ → Bool → Type 0
IsTaskList octets P inputs window = IsOfInbox (λ heard. IsListed (octets window) P heard window) inputs
