-- The messages of some inputs, each heard or refused (our own rule).
use Rattle.std.specs.Prelude.{◌≡◌, ℕ, ◌+◌, Bool, true, false, List, [], ◌∷◌, ◌++◌, Option, Some, Result, Ok, Err}
use Rattle.std.specs.List.{AllZip}
use Rattle.itip_message.specs.Message.{ReadsMessage, RefusesMessage}
use Rattle.itip_message.specs.declared.error.MessageRefusal.{MessageRefusal}
use Rattle.itip_items.specs.declared.item.Item.{Item}
use Rattle.itip_state.specs.Kept.{AreKept}
use Rattle.itip_message.specs.Cutting.{IsCutInto}
use Rattle.itip_inbox.specs.declared.refused.RefusedMessage.{RefusedMessage}

-- it is known that a reader gives these bytes from here on
abbrev pub Gives : {R : Type 0} → (R → Option (List ℕ)) → R → List ℕ → Type 0
Gives remaining source input = remaining source ≡ Some input

-- each of these readers gives the input beside it
abbrev pub AreInputs : {R : Type 0} → (R → Option (List ℕ)) → List R → List (List ℕ) → Type 0
AreInputs remaining sources inputs = AllZip (Gives remaining) sources inputs

-- A message of some inputs: the place of its input, from 0, its number there, from 1, and its text.
pub record Placed : Type 0 where
  pub source : ℕ
  pub message : ℕ
  pub text : List ℕ

-- the messages of the input at this place, the first of which has this number
abbrev pub placed_from : ℕ → ℕ → List (List ℕ) → List Placed
placed_from source number [] = []
placed_from source number (text ∷ texts) =
    (record { source = source; message = number; text = text }) ∷ placed_from source (number + 1) texts

-- the messages of several inputs, the first of which has this place
abbrev pub placed_of : ℕ → List (List (List ℕ)) → List Placed
placed_of source [] = []
placed_of source (texts ∷ rest) = placed_from source 1 texts ++ placed_of (source + 1) rest

-- what a text is: a message that gives items, or refused for a cause
abbrev pub IsAnswer : List ℕ → Result (List Item) MessageRefusal → Type 0
IsAnswer text (Ok items) = ReadsMessage text items
IsAnswer text (Err cause) = RefusesMessage text cause

-- each of these messages has the answer beside it
abbrev pub AreAnswers : List Placed → List (Result (List Item) MessageRefusal) → Type 0
AreAnswers [] [] = Unit {0}
AreAnswers [] (answer ∷ answers) = ⊥
AreAnswers (placed ∷ messages) [] = ⊥
AreAnswers (placed ∷ messages) (answer ∷ answers) = IsAnswer placed.text answer × AreAnswers messages answers

-- the items of the messages that are not refused
abbrev pub heard_of : List (Result (List Item) MessageRefusal) → List Item
heard_of [] = []
heard_of (Ok items ∷ answers) = items ++ heard_of answers
heard_of (Err cause ∷ answers) = heard_of answers

-- the refused ones of these messages, by the answer to each
abbrev pub refusals_at : List Placed → List (Result (List Item) MessageRefusal) → List RefusedMessage
refusals_at [] answers = []
refusals_at (placed ∷ messages) [] = []
refusals_at (placed ∷ messages) (Ok items ∷ answers) = refusals_at messages answers
refusals_at (placed ∷ messages) (Err cause ∷ answers) =
    (record { source = placed.source; message = placed.message; refusal = cause }) ∷ refusals_at messages answers

-- Those of these messages that are not refused give these items, and these are the others.
pub record Hears (messages : List Placed) (heard : List Item) (refusals : List RefusedMessage) : Type 0 where
  pub answers : List (Result (List Item) MessageRefusal)
  pub each : AreAnswers messages answers
  pub heard_are : heard ≡ heard_of answers
  pub refusals_are : refusals ≡ refusals_at messages answers

-- Each input is cut into messages by itself, and these give these items and these refusals.
pub record IsInbox (inputs : List (List ℕ)) (heard : List Item) (refusals : List RefusedMessage) : Type 0 where
  pub messages : List (List (List ℕ))
  pub cut : AllZip IsCutInto inputs messages
  pub hears : Hears (placed_of 0 messages) heard refusals

abbrev pub is_some_refused : List RefusedMessage → Bool
is_some_refused [] = false
is_some_refused (refusal ∷ refusals) = true

-- What is kept of all messages of some inputs that are not refused, and the refused ones.
pub record Holds (inputs : List (List ℕ)) (kept : List Item) (refusals : List RefusedMessage) : Type 0 where
  pub heard : List Item
  pub inbox : IsInbox inputs heard refusals
  pub keeps : AreKept kept heard
