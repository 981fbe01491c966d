-- Deltas: the canonical bytes of items, one after another, and the batch that bytes are read as (our own format).
use Rattle.std.specs.Prelude.{◌≡◌, ℕ, ◌⊎◌, List, [], ◌∷◌, ◌++◌}
use Rattle.itip_todo.specs.Limits.{present}
use Rattle.itip_message.specs.Message.{ReadsMessage, RefusesMessage}
use Rattle.itip_message.specs.Several.{AreMessagesWithin, ReadsMessagesWithin}
use Rattle.itip_message.specs.declared.error.MessageRefusal.{MessageRefusal}
use Rattle.itip_items.specs.declared.item.Item.{Item}
use Rattle.itip_state.specs.Kept.{IsItemsOf}
use Rattle.itip_desk.specs.HeardSteps.{heard}
use Rattle.itip_desk.specs.Octets.{AscendOctets}
use Rattle.itip_message.specs.Cutting.{IsCutInto}
use Rattle.itip_message.specs.Scanned.{messages_of}

-- the canonical bytes of items, in order
unfoldable pub delta_octets : List Item → List ℕ
delta_octets [] = []
delta_octets (item ∷ items) = item.bytes ++ delta_octets items

-- a text is a message, and the batch has its items
pub record GivesBatch (text : List ℕ) (batch : List Item) : Type 0 where
  pub items : List Item
  pub reads : ReadsMessage text items
  pub batch_is : IsItemsOf batch items

-- each of these texts is a message, read as the items in the same place
abbrev pub AreMessages : List (List ℕ) → List (List Item) → Type 0
AreMessages = AreMessagesWithin present

-- the first of these texts that is not a message is refused for this cause
abbrev pub FirstRefused : List (List ℕ) → MessageRefusal → Type 0
FirstRefused [] fault = ⊥
FirstRefused (text ∷ texts) fault = RefusesMessage text fault ⊎ (((items : List Item) × ReadsMessage text items) × FirstRefused texts fault)

-- the items of all messages, heard one after another
abbrev pub all_of : List (List Item) → List Item
all_of = heard

-- the items of all messages in these bytes make this batch
pub record ReadsDelta (bytes : List ℕ) (batch : List Item) : Type 0 where
  pub given : List (List Item)
  pub reads : ReadsMessagesWithin present bytes given
  pub batch_is : IsItemsOf batch (all_of given)

-- the first message in these bytes that is refused is refused for this cause
pub record RefusesDelta (bytes : List ℕ) (fault : MessageRefusal) : Type 0 where
  pub messages : List (List ℕ)
  pub cut : IsCutInto bytes messages
  pub first : FirstRefused messages fault

-- the bytes of a batch
pub record IsDelta (bytes : List ℕ) : Type 0 where
  pub batch : List Item
  pub ascend : AscendOctets batch
  pub octets : bytes ≡ delta_octets batch

-- What is read from the rest of some bytes follows the items that were read before it. If the rest is refused, so are the bytes, for the
-- same cause.
pub record Continues (bytes rest : List ℕ) (items : List Item) : Type 0 where
  pub read : (given : List (List Item)) → AreMessages (messages_of rest) given
      → (all : List (List Item)) × AreMessages (messages_of bytes) all × (all_of all ≡ items ++ all_of given)
  pub refused : (refusal : MessageRefusal) → FirstRefused (messages_of rest) refusal → FirstRefused (messages_of bytes) refusal
