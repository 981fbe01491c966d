-- What is read from the file of a desk, part by part (our own format).
use Rattle.std.specs.Prelude.{◌≡◌, ◌<◌, ◌≤◌, ℕ, ◌^◌, List, [], ◌∷◌, ◌++◌, length, drop, codes, Option, Some, IfSome, map}
use Rattle.std.specs.List.{Contains}
use Rattle.itip_items.specs.KeyParts.{uid_of}
use Rattle.itip_items.specs.declared.item.Item.{Item}
use Rattle.itip_state.specs.Kept.{AreKept}
use Rattle.itip_message.specs.Message.{ReadsMessage}
use Rattle.itip_message.specs.Scanned.{messages_of}
use Rattle.itip_desk.specs.Desk.{Shown}
use Rattle.itip_desk.specs.MovedSince.{CarriesLast}
use Rattle.itip_desk.specs.DeskFile.{parameter_text, version_text, message_text, digits_value, HasNumber, NamesOtherForm}
use Rattle.itip_desk.specs.declared.file_text.FileHead.{FileHead}
use Rattle.itip_desk.specs.declared.file_reading.FileParts.{FileParts}

-- the value of these digits, a number of 64 bits
pub record IsValue (digits : List ℕ) (number : ℕ) : Type 0 where
  pub some : 0 < length digits
  pub value : number ≡ digits_value 0 digits
  pub fits : number < 2 ^ 64

-- what follows a name and a number, if bytes begin with these; otherwise all of the bytes
pub record IsBehind (octets name rest : List ℕ) : Type 0 where
  pub number : (number : ℕ) (after : List ℕ) → HasNumber octets name number after → rest ≡ after
  pub none : ((number : ℕ) (after : List ℕ) → HasNumber octets name number after → ⊥) → rest ≡ octets

-- the numbers of a head have 64 bits
pub record IsHead (head : FileHead) : Type 0 where
  pub items : head.items < 2 ^ 64
  pub tick : head.tick < 2 ^ 64

-- what follows the name VERSION in a message of a file
abbrev pub behind_product : Option FileHead → ℕ → List ℕ → List ℕ
behind_product head moved bytes = version_text head moved ++ drop 57 bytes

-- If a text is a message of a file, this is what follows the name VERSION in it.
abbrev pub FollowsProduct : List ℕ → Option (List ℕ) → Type 0
FollowsProduct text found = (head : Option FileHead) (at : ℕ) (bytes : List ℕ) → IfSome head IsHead →
    text ≡ message_text head at bytes → found ≡ Some (behind_product head at bytes)

-- If a text is a message of a file, this is what it tells of the last move of its UID.
abbrev pub TellsMove : List ℕ → Option ℕ → Type 0
TellsMove text found = (head : Option FileHead) (at : ℕ) (bytes : List ℕ) → at < 2 ^ 64 → IfSome head IsHead →
    text ≡ message_text head at bytes → found ≡ Some at

-- a text read as a message of the file of a desk at this tick: the move and the items that it tells
pub record ReadsPart (tick : ℕ) (text : List ℕ) (moved : ℕ) (items : List Item) : Type 0 where
  pub reads : ReadsMessage text items
  pub told : TellsMove text (Some moved)
  pub some : 0 < moved
  pub within : moved ≤ tick

-- a text that is not a message of the file of a desk at this tick
abbrev pub IsNoPart : ℕ → List ℕ → Type 0
IsNoPart tick text = (head : Option FileHead) (at : ℕ) (item : Item) → at < 2 ^ 64 → 0 < at → at ≤ tick →
    IfSome head IsHead → text ≡ message_text head at item.bytes → ⊥

-- the UIDs of items, each with this tick
abbrev pub moves_at : ℕ → List Item → List (List ℕ × ℕ)
moves_at moved items = map (λ (item : Item). (uid_of item.key, moved)) items

-- Each of these texts is read as a message of the file of a desk at this tick, and these are the items and the moves of all of them.
abbrev pub ReadsParts : ℕ → List (List ℕ) → List Item → List (List ℕ × ℕ) → Type 0
ReadsParts tick [] items moves = (items ≡ []) × (moves ≡ [])
ReadsParts tick (text ∷ texts) items moves =
    (moved : ℕ) × (given : List Item) × (others : List Item) × (rest : List (List ℕ × ℕ)) × ReadsPart tick text moved given
    × (items ≡ given ++ others) × (moves ≡ moves_at moved given ++ rest) × ReadsParts tick texts others rest

-- what follows the form of a first message
abbrev pub first_text : ℕ → ℕ → List ℕ → List ℕ
first_text items tick rest =
    parameter_text (codes ";X-ITEMS=") items
    ++ (codes ":-//itipdesk//1//EN\r\nVERSION" ++ (parameter_text (codes ";X-TICK=") tick ++ (codes ";X-MOVED=" ++ rest)))

-- the tick that the first message tells, if it is one of a file; 0 for no bytes
pub record TellsTick (octets : List ℕ) (tick : ℕ) : Type 0 where
  pub empty : octets ≡ [] → tick ≡ 0
  pub first : (head : FileHead) (at : ℕ) (bytes rest : List ℕ) → IsHead head →
      octets ≡ message_text (Some head) at bytes ++ rest → tick ≡ head.tick
  pub fits : tick < 2 ^ 64
  pub this_form : ¬ NamesOtherForm octets

-- what was read from one more message
pub record AddsPart (text : List ℕ) (old new : FileParts) : Type 0 where
  pub moved : ℕ
  pub given : List Item
  pub part : ReadsPart old.tick text moved given
  pub items_are : new.items.items ≡ old.items.items ++ given
  pub moves_are : new.moves.items ≡ old.moves.items ++ moves_at moved given
  pub tick_is : new.tick ≡ old.tick

-- What is read from the rest of a file follows what was read before it, and each message of the rest is one of the file.
pub record FileSoFar (octets rest : List ℕ) (tick : ℕ) (items : List Item) (moves : List (List ℕ × ℕ)) : Type 0 where
  pub read : (others : List Item) (more : List (List ℕ × ℕ)) → ReadsParts tick (messages_of rest) others more →
      ReadsParts tick (messages_of octets) (items ++ others) (moves ++ more)
  pub there : (text : List ℕ) → Contains (messages_of rest) text → Contains (messages_of octets) text

-- one of these moves is at this tick, unless that is 0
abbrev pub ReachTick : ℕ → List (List ℕ × ℕ) → Type 0
ReachTick tick moves = 0 < tick → (uid : List ℕ) × Contains moves (uid, tick)

-- what is read from the messages of a file
pub record ReadsFile (octets : List ℕ) (parts : FileParts) : Type 0 where
  pub tick : TellsTick octets parts.tick
  pub all : ReadsParts parts.tick (messages_of octets) parts.items.items parts.moves.items

-- the desk that the parts make
pub record IsDeskOfParts (parts : FileParts) (desk : Shown) : Type 0 where
  pub kept : AreKept desk.kept parts.items.items
  pub tick : desk.tick ≡ parts.tick
  pub changed : CarriesLast parts.moves.items desk.changed
