-- What the messages of some inputs tell of the to-do of one UID (our own rule).
use Rattle.std.specs.Prelude.{◌≡◌, ℕ, Bool, List, [], ◌∷◌, ◌++◌, map, filter, Option, Some, None, Result, Ok, Err}
use Rattle.std.specs.List.{AllZip}
use Rattle.std.specs.Str.{bytes_eq}
use Rattle.itip_explain.specs.declared.told.Place.{Place}
use Rattle.itip_explain.specs.declared.told.ToldItem.{ToldItem}
use Rattle.itip_items.specs.KeyParts.{uid_of}
use Rattle.itip_items.specs.declared.item.Item.{Item}
use Rattle.itip_message.specs.Cutting.{IsCutInto}
use Rattle.itip_message.specs.declared.error.MessageRefusal.{MessageRefusal}
use Rattle.itip_state.specs.Kept.{AreKept}
use Rattle.itip_inbox.specs.Inbox.{Placed, placed_of, AreAnswers, Hears}
use Rattle.itip_inbox.specs.declared.refused.RefusedMessage.{RefusedMessage}

-- the item is about this UID
abbrev pub is_about : List ℕ → Item → Bool
is_about uid item = bytes_eq (uid_of item.key) uid

-- the items that are about the followed UID, in their order, each as often as it is there
abbrev pub items_about : Option (List ℕ) → List Item → List Item
items_about None items = []
items_about (Some uid) items = filter (is_about uid) items

abbrev pub told_item : Place → Item → ToldItem
told_item place item = record { place = place; item = item }

-- items, each with the place of the message that tells it
abbrev pub told_in : Place → List Item → List ToldItem
told_in place items = map (told_item place) items

abbrev pub place_of : Placed → Place
place_of placed = record { source = placed.source; message = placed.message }

-- What these messages tell of a UID, by the answer to each: in the order of the messages, and of the items of each.
abbrev pub told_at : Option (List ℕ) → List Placed → List (Result (List Item) MessageRefusal) → List ToldItem
told_at about [] answers = []
told_at about (placed ∷ messages) [] = []
told_at about (placed ∷ messages) (Ok items ∷ answers) =
    told_in (place_of placed) (items_about about items) ++ told_at about messages answers
told_at about (placed ∷ messages) (Err cause ∷ answers) = told_at about messages answers

-- These messages tell this of a UID.
pub record AreTold (about : Option (List ℕ)) (messages : List Placed) (told : List ToldItem) : Type 0 where
  pub answers : List (Result (List Item) MessageRefusal)
  pub each : AreAnswers messages answers
  pub told_are : told ≡ told_at about messages answers

-- Each input is cut into messages by itself, and these tell this of a UID.
pub record TellAbout (about : Option (List ℕ)) (inputs : List (List ℕ)) (told : List ToldItem) : Type 0 where
  pub messages : List (List (List ℕ))
  pub cut : AllZip IsCutInto inputs messages
  pub tell : AreTold about (placed_of 0 messages) told

-- This is what is kept of some messages, which have these refusals and tell this of a UID; which messages they are is not said.
pub record HasHeard (about : Option (List ℕ)) (kept : List Item) (refusals : List RefusedMessage) (told : List ToldItem) : Type 0 where
  pub messages : List Placed
  pub heard : List Item
  pub hears : Hears messages heard refusals
  pub tells : AreTold about messages told
  pub keeps : AreKept kept heard
