-- What is written of all messages of some inputs (our own form).
use Rattle.std.specs.Prelude.{◌≡◌, ◌⊎◌, ℕ, Bool, ◌||◌, List, [], Option}
use Rattle.std.specs.Io.KnownBytes.{Appends}
use Rattle.itip_items.specs.declared.item.Item.{Item}
use Rattle.itip_state.specs.Kept.{AreKept}
use Rattle.itip_streams.specs.Written.{AppendsFront}
use Rattle.itip_inbox.specs.Inbox.{IsInbox, is_some_refused}
use Rattle.itip_inbox.specs.declared.refused.RefusedMessage.{RefusedMessage}

-- A text of which this holds given what is heard, and which may be a refusal; and whether a message is refused, or the text is a
-- refusal.
pub record IsOfInbox (Is : List Item → List ℕ → Bool → Type 0) (inputs : List (List ℕ)) (text : List ℕ) (refused : Bool) : Type 0 where
  pub heard : List Item
  pub refusals : List RefusedMessage
  pub inbox : IsInbox inputs heard refusals
  pub refusal : Bool
  pub is_text : Is heard text refusal
  pub refused_is : refused ≡ (is_some_refused refusals || refusal)

-- Nothing was written, or a prefix of an output of which this holds.
abbrev pub WritesFront : (List ℕ → Bool → Type 0) → Option (List ℕ) → Option (List ℕ) → Type 0
WritesFront Is old new = Appends old new [] ⊎ ((output : List ℕ) × (said : Bool) × Is output said × AppendsFront old new output)

-- A text was written of which this holds, whatever set of items has these kept items. It may be a refusal.
pub record WritesKept (Is : List Item → List ℕ → Bool → Type 0) (kept : List Item) (old new : Option (List ℕ)) (refusal : Bool) : Type 0
  where
    pub text : List ℕ
    pub is_text : (heard : List Item) → AreKept kept heard → Is heard text refusal
    pub appended : Appends old new text

-- a prefix of such a text was written
pub record WritesSomeKept (Is : List Item → List ℕ → Bool → Type 0) (kept : List Item) (old new : Option (List ℕ)) : Type 0 where
  pub text : List ℕ
  pub refusal : Bool
  pub is_text : (heard : List Item) → AreKept kept heard → Is heard text refusal
  pub appended : AppendsFront old new text

-- Nothing was written, or a prefix of such a text.
abbrev pub WritesKeptFront : (List Item → List ℕ → Bool → Type 0) → List Item → Option (List ℕ) → Option (List ℕ) → Type 0
WritesKeptFront Is kept old new = Appends old new [] ⊎ WritesSomeKept Is kept old new
