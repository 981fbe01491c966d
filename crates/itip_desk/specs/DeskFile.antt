-- The file of a desk (our own format): the compaction of what it keeps, with parameters. VERSION tells when the message's UID last moved;
-- in the first message PRODID tells the form and the number of messages, and VERSION also the tick of the desk. No line is added, since a
-- message may already have as many as are read.
use Rattle.std.specs.Prelude.{◌≡◌, ◌≢◌, ◌<◌, ◌≤◌, ℕ, suc, ◌+◌, ◌-◌, ◌*◌, ◌^◌, Bool, ◌&&◌, nat_le, if◌then◌else◌}
use Rattle.std.specs.Prelude.{List, [], ◌∷◌, ◌++◌, length, drop, codes, Option, Some, None, unwrap_or}
use Rattle.std.specs.Fmt.{decimal}
use Rattle.std.specs.List.{Contains}
use Rattle.std.specs.Io.KnownBytes.{Appends}
use Rattle.itip_items.specs.KeyParts.{uid_of}
use Rattle.itip_items.specs.declared.item.Item.{Item}
use Rattle.itip_state.specs.Kept.{AreKept, IsItemsOf, SameItems}
use Rattle.itip_desk.specs.Desk.{Shown}
use Rattle.itip_desk.specs.MovedSince.{tick_at}
use Rattle.itip_desk.specs.declared.file_text.FileHead.{FileHead}
use Rattle.itip_desk.specs.declared.refusal.FileRefusal.{FileRefusal}
use Rattle.itip_desk.specs.declared.refusal.FileRefusal.TheVariants.{OtherForm, Broken, Unwritten}
use Rattle.itip_desk.specs.declared.error.FileError.{FileError}
use Rattle.itip_desk.specs.declared.error.FileError.TheVariants as error

-- a parameter whose value is a number
abbrev pub parameter_text : List ℕ → ℕ → List ℕ
parameter_text name number = name ++ decimal number

-- the parameters of PRODID: in the first message the form and the number of messages, in others none
abbrev pub product_parameters : Option FileHead → List ℕ
product_parameters None = []
product_parameters (Some head) = parameter_text (codes ";X-FORM=") 1 ++ parameter_text (codes ";X-ITEMS=") head.items

-- the parameters of VERSION: in the first message the tick of the desk, and in each when its UID last moved
abbrev pub tick_parameters : Option FileHead → List ℕ
tick_parameters None = []
tick_parameters (Some head) = parameter_text (codes ";X-TICK=") head.tick

abbrev pub version_parameters : Option FileHead → ℕ → List ℕ
version_parameters head moved = tick_parameters head ++ parameter_text (codes ";X-MOVED=") moved

-- what a message begins with, up to the parameters of PRODID, and what follows them up to those of VERSION
abbrev pub begins_text : List ℕ
begins_text = codes "BEGIN:VCALENDAR\r\nPRODID"

abbrev pub product_text : Option FileHead → List ℕ
product_text head = begins_text ++ product_parameters head ++ codes ":-//itipdesk//1//EN\r\nVERSION"

abbrev pub version_text : Option FileHead → ℕ → List ℕ
version_text head moved = version_parameters head moved ++ codes ":2.0\r\n"

-- canonical bytes with these parameters: without them the lines up to VERSION have 57 bytes
abbrev pub message_text : Option FileHead → ℕ → List ℕ → List ℕ
message_text head moved bytes = product_text head ++ version_text head moved ++ drop 57 bytes

-- the tick at which the UID of an item last moved, or 0 if it carries none
abbrev pub moved_at : List (List ℕ × ℕ) → Item → ℕ
moved_at changed item = unwrap_or (tick_at changed (uid_of item.key)) 0

-- the messages of items, the first of them with the head
unfoldable pub messages_text : List (List ℕ × ℕ) → Option FileHead → List Item → List ℕ
messages_text changed head [] = []
messages_text changed head (item ∷ items) = message_text head (moved_at changed item) item.bytes ++ messages_text changed None items

abbrev pub head_of : ℕ → List Item → Option FileHead
head_of tick items = Some (record { items = length items; tick = tick })

-- These bytes are the file of the desk: the messages of what it keeps, by canonical bytes. A desk that keeps nothing has the empty file.
pub record IsFileOf (desk : Shown) (octets : List ℕ) : Type 0 where
  pub items : List Item
  pub items_are : IsItemsOf items desk.kept
  pub few : length items < 2 ^ 64
  pub octets_are : octets ≡ messages_text desk.changed (head_of desk.tick items) items

-- A desk that its file tells completely: nothing that it keeps is dead or outdated, each UID of which something is kept last moved at
-- a tick from 1 to that of the desk, and no other UID moved; above tick 0 one of them moved at the tick of the desk. Every desk that
-- began empty at tick 0 is such a desk.
pub record IsTold (desk : Shown) : Type 0 where
  pub settled : AreKept desk.kept desk.kept
  pub ticks : (uid : List ℕ) (tick : ℕ) → tick_at desk.changed uid ≡ Some tick → (0 < tick) × (tick ≤ desk.tick)
  pub kept : (uid : List ℕ) (tick : ℕ) → tick_at desk.changed uid ≡ Some tick →
      (item : Item) × Contains desk.kept item × (uid_of item.key ≡ uid)
  pub moved : (item : Item) → Contains desk.kept item → (tick : ℕ) × (tick_at desk.changed (uid_of item.key) ≡ Some tick)
  pub empty : desk.kept ≡ [] → desk.tick ≡ 0
  pub reached : 0 < desk.tick → (uid : List ℕ) × (tick_at desk.changed uid ≡ Some desk.tick)
  pub fits : desk.tick < 2 ^ 64

-- the bytes are the file of a desk, which they tell completely
pub record TellsDesk (octets : List ℕ) (desk : Shown) : Type 0 where
  pub told : IsTold desk
  pub file : IsFileOf desk octets

-- two desks keep the same items, are at the same tick, and their UIDs last moved at the same ticks: their deltas since any tick are the
-- same
pub record AreAlike (a b : Shown) : Type 0 where
  pub kept : SameItems a.kept b.kept
  pub tick : a.tick ≡ b.tick
  pub changed : (uid : List ℕ) → tick_at a.changed uid ≡ tick_at b.changed uid

-- known bytes grow by the file of a desk
pub record WritesFile (desk : Shown) (old new : Option (List ℕ)) : Type 0 where
  pub octets : List ℕ
  pub file : IsFileOf desk octets
  pub appended : Appends old new octets

-- ---- what is not such a file

abbrev pub is_digit : ℕ → Bool
is_digit b = nat_le 48 b && nat_le b 57

-- the number of digits that bytes begin with
abbrev pub digits_before : List ℕ → ℕ
digits_before [] = 0
digits_before (b ∷ octets) = if is_digit b then suc (digits_before octets) else 0

-- a number with these digits after it
abbrev pub digits_value : ℕ → List ℕ → ℕ
digits_value number [] = number
digits_value number (b ∷ octets) = digits_value (number * 10 + (b - 48)) octets

-- Bytes begin with a name and then a number of 64 bits, which takes all the digits that are there.
pub record HasNumber (octets name : List ℕ) (number : ℕ) (after : List ℕ) : Type 0 where
  pub digits : List ℕ
  pub whole : octets ≡ name ++ (digits ++ after)
  pub all : length digits ≡ digits_before (digits ++ after)
  pub some : 0 < length digits
  pub value : number ≡ digits_value 0 digits
  pub fits : number < 2 ^ 64

-- the first message names this form
pub record NamesForm (octets : List ℕ) (form : ℕ) : Type 0 where
  pub after : List ℕ
  pub named : HasNumber octets (begins_text ++ codes ";X-FORM=") form after

-- it names a form that is not read
abbrev pub NamesOtherForm : List ℕ → Type 0
NamesOtherForm octets = (form : ℕ) × NamesForm octets form × (form ≢ 1)

-- The bytes name another form; or they don't, and are the file of no desk.
abbrev pub RefusesFile : List ℕ → FileRefusal → Type 0
RefusesFile octets OtherForm = NamesOtherForm octets
RefusesFile octets (Broken message) = (¬ NamesOtherForm octets) × ((desk : Shown) → TellsDesk octets desk → ⊥)
RefusesFile octets (Unwritten desk) = ⊥

-- of an error: nothing if an allocation failed, and otherwise P of the refusal
abbrev pub IfFileRefused : FileError → (FileRefusal → Type 0) → Type 0
IfFileRefused error.NoMemory P = Unit {0}
IfFileRefused (error.Refused refusal) P = P refusal
