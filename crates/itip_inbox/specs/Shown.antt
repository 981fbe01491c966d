-- What is shown of a text: its items, or the number of its refusal (our own format). Each line of ours ends with LF.
use Rattle.std.specs.Prelude.{◌≡◌, ◌⊎◌, ℕ, Bool, true, false, List, [], ◌∷◌, ◌++◌, length, Option, Some, None, codes}
use Rattle.std.specs.Fmt.{decimal}
use Rattle.itip_items.specs.declared.item.Item.{Item}
use Rattle.itip_message.specs.Message.{RefusesMessage}
use Rattle.itip_message.specs.RefusalNumbers.{number_of}
use Rattle.itip_message.specs.declared.error.MessageRefusal.{MessageRefusal}
use Rattle.itip_desk.specs.DeltaFormat.{delta_octets, GivesBatch}
use Rattle.itip_desk.specs.Refusals.{refused_text}
use Rattle.itip_inbox.specs.declared.refused.RefusedMessage.{RefusedMessage}

-- how many items there are, and their bytes
abbrev pub items_text : List Item → List ℕ
items_text batch = codes "items " ++ decimal (length batch) ++ 10 ∷ delta_octets batch

-- the items that a text is read as, sorted by canonical bytes, each once
pub record ShowsItems (text shown : List ℕ) : Type 0 where
  pub batch : List Item
  pub gives : GivesBatch text batch
  pub shown_is : shown ≡ items_text batch

-- the number of the refusal of a text
pub record ShowsRefusal (text : List ℕ) (refusal : MessageRefusal) (shown : List ℕ) : Type 0 where
  pub refuses : RefusesMessage text refusal
  pub shown_is : shown ≡ refused_text (number_of refusal)

-- the refusal of the first message of the first source, if there is one
abbrev pub refused_alone : Option MessageRefusal → List RefusedMessage
refused_alone None = []
refused_alone (Some cause) = (record { source = 0; message = 1; refusal = cause }) ∷ []

-- What is shown of a text: its items, or its refusal if there is one.
abbrev pub IsShownAs : List ℕ → Option MessageRefusal → List ℕ → Type 0
IsShownAs text None shown = ShowsItems text shown
IsShownAs text (Some refusal) shown = ShowsRefusal text refusal shown

-- What is shown of a text, and whether the text is refused.
abbrev pub IsShown : List ℕ → List ℕ → Bool → Type 0
IsShown text shown refused =
    (ShowsItems text shown × (refused ≡ false)) ⊎ (((refusal : MessageRefusal) × ShowsRefusal text refusal shown) × (refused ≡ true))
