-- The compaction of some inputs: the bytes of what is kept of all their messages (our own format).
use Rattle.std.specs.Prelude.{◌≡◌, ◌↔◌, ℕ, Bool, List, [], ◌∷◌, ◌++◌, Option}
use Rattle.std.specs.List.{Contains, AllByRecursion, concat}
use Rattle.std.specs.Io.KnownBytes.{Appends}
use Rattle.itip_items.specs.declared.item.Item.{Item}
use Rattle.itip_state.specs.Kept.{AreKept}
use Rattle.itip_desk.specs.Octets.{AscendOctets}
use Rattle.itip_message.specs.Cutting.{IsCalendar, AreApart, IsCutInto}
use Rattle.itip_desk.specs.DeltaFormat.{delta_octets}
use Rattle.itip_inbox.specs.Inbox.{IsInbox, is_some_refused}
use Rattle.itip_inbox.specs.declared.refused.RefusedMessage.{RefusedMessage}

-- the bytes of the kept items of a set, sorted by canonical bytes, each once
pub record AreKeptOctets (heard : List Item) (octets : List ℕ) : Type 0 where
  pub batch : List Item
  pub ascend : AscendOctets batch
  pub kept : AreKept batch heard
  pub octets_are : octets ≡ delta_octets batch

-- The bytes of what is kept of all messages of some inputs that are not refused, and whether one is.
pub record IsCompaction (inputs : List (List ℕ)) (octets : List ℕ) (refused : Bool) : Type 0 where
  pub heard : List Item
  pub refusals : List RefusedMessage
  pub inbox : IsInbox inputs heard refusals
  pub kept : AreKeptOctets heard octets
  pub refused_is : refused ≡ is_some_refused refusals

-- Their compactions have the same bytes.
abbrev pub HaveSameCompaction : List (List ℕ) → List (List ℕ) → Type 0
HaveSameCompaction inputs others = (octets again : List ℕ) (refused other : Bool) → IsCompaction inputs octets refused →
    IsCompaction others again other → again ≡ octets

-- What was written, and then what is kept to be written, are the bytes of these items.
pub record WritesSoFar (old new : Option (List ℕ)) (done : List Item) (kept : List ℕ) : Type 0 where
  pub written : List ℕ
  pub octets_are : delta_octets done ≡ written ++ kept
  pub appended : Appends old new written

-- each of these byte strings is the compaction of the part beside it; a part is a list of inputs
abbrev pub AreCompactions : List (List (List ℕ)) → List (List ℕ) → Type 0
AreCompactions [] [] = Unit {0}
AreCompactions [] (octets ∷ compacted) = ⊥
AreCompactions (part ∷ parts) [] = ⊥
AreCompactions (part ∷ parts) (octets ∷ compacted) = ((refused : Bool) × IsCompaction part octets refused) × AreCompactions parts compacted

-- the inputs of all parts
abbrev pub all_inputs : List (List (List ℕ)) → List (List ℕ)
all_inputs [] = []
all_inputs (part ∷ parts) = part ++ all_inputs parts

-- an item that some inputs tell: one of their messages gives it
pub record TellsItem (inputs : List (List ℕ)) (item : Item) : Type 0 where
  pub heard : List Item
  pub refusals : List RefusedMessage
  pub inbox : IsInbox inputs heard refusals
  pub among : Contains heard item

-- They tell the same items, in any messages and order, each once or more often.
abbrev pub TellSameItems : List (List ℕ) → List (List ℕ) → Type 0
TellSameItems inputs others = (item : Item) → TellsItem inputs item ↔ TellsItem others item

-- a message of one of these inputs
pub record HasMessage (inputs : List (List ℕ)) (message : List ℕ) : Type 0 where
  pub input : List ℕ
  pub given : Contains inputs input
  pub messages : List (List ℕ)
  pub cut : IsCutInto input messages
  pub among : Contains messages message

-- They have the same messages, in some order, each once or more often.
abbrev pub HaveSameMessages : List (List ℕ) → List (List ℕ) → Type 0
HaveSameMessages inputs others = (message : List ℕ) → HasMessage inputs message ↔ HasMessage others message

-- A part ends between two messages, where the rest follows: it consists of whole calendars, and none of these is followed by a blank,
-- which would make its last break a fold.
pub record EndsBetween (part rest : List ℕ) : Type 0 where
  pub calendars : List (List ℕ)
  pub whole : part ≡ concat calendars
  pub each : AllByRecursion IsCalendar calendars
  pub apart : AreApart calendars rest

-- each of these parts but the last ends between two messages
abbrev pub EachEndsBetween : List (List ℕ) → Type 0
EachEndsBetween [] = Unit {0}
EachEndsBetween (part ∷ []) = Unit {0}
EachEndsBetween (part ∷ (next ∷ parts)) = EndsBetween part (concat (next ∷ parts)) × EachEndsBetween (next ∷ parts)

-- an input that was cut between messages into these parts
pub record IsPartedInto (whole : List ℕ) (parts : List (List ℕ)) : Type 0 where
  pub joined : whole ≡ concat parts
  pub between : EachEndsBetween parts
