-- What is known while inputs are read piece by piece (our own form).
use Rattle.std.specs.Prelude.{◌≡◌, ℕ, ◌+◌, List, [], ◌∷◌, ◌++◌, length, Option, Some, None, ⊤, Bool, true, false}
use Rattle.std.specs.Prelude.{◌||◌, ltb, IsTrue}
use Rattle.std.specs.Io.KnownBytes.{Consumes, IsAtEnd}
use Rattle.std.specs.List.{AllZip}
use Rattle.itip_lines.specs.Reading.{text_limit}
use Rattle.itip_message.specs.Begun.{DifferInFirst}
use Rattle.itip_items.specs.declared.item.Item.{Item}
use Rattle.itip_state.specs.Kept.{AreKept}
use Rattle.itip_state.specs.Told.{AreNews}
use Rattle.itip_explain.specs.declared.told.ToldItem.{ToldItem}
use Rattle.itip_message.specs.Cutting.{IsCutInto}
use Rattle.itip_message.specs.Scanned.{messages_of}
use Rattle.itip_inbox.specs.Following.{AreTold}
use Rattle.itip_inbox.specs.Inbox.{AreInputs, Placed, placed_from, placed_of, Hears}
use Rattle.itip_inbox.specs.declared.open_inbox.OpenInbox.{OpenInbox}
use Rattle.itip_inbox.specs.declared.messages.Held.{Held}
use Rattle.itip_inbox.specs.declared.texts.Heard.{Heard}
use Rattle.itip_inbox.specs.declared.waiting.Waiting.{Waiting}
use Rattle.itip_inbox.specs.declared.refused.RefusedMessage.{RefusedMessage}

-- What messages tell beside a set of kept items: the items of theirs that are news, the refusals, and what they tell of the followed
-- UID.
pub record TellBeside (about : Option (List ℕ)) (kept : List Item) (messages : List Placed) (news : List Item)
    (refusals : List RefusedMessage) (told : List ToldItem) : Type 0 where
  pub items : List Item
  pub hears : Hears messages items refusals
  pub tells : AreTold about messages told
  pub news_are : AreNews kept items news

-- This is what messages tell beside a set of kept items, and how many they are.
pub record Tells (about : Option (List ℕ)) (kept : List Item) (messages : List Placed) (heard : Heard) : Type 0 where
  pub beside : TellBeside about kept messages heard.news.items heard.refusals heard.told.items
  pub count_is : heard.count ≡ length messages

-- the messages of the sources that wait to be heard
abbrev pub waiting_of : List Waiting → List Placed
waiting_of [] = []
waiting_of (one ∷ more) = placed_from one.source 1 (messages_of one.octets.items) ++ waiting_of more

-- Bytes were read, and come after those that were held before.
pub record Brings (old new : Option (List ℕ)) (before after : List ℕ) : Type 0 where
  pub brought : List ℕ
  pub reads : Consumes old new brought
  pub grows : after ≡ before ++ brought

-- The messages of an input are these, and then those of the bytes that came and are not heard yet, with what is not read yet.
abbrev pub LeavesMessages : Option (List ℕ) → Option (List ℕ) → List (List ℕ) → List ℕ → Type 0
LeavesMessages None new messages came = ⊤
LeavesMessages (Some input) None messages came = ⊥
LeavesMessages (Some input) (Some rest) messages came = messages_of input ≡ messages ++ messages_of (came ++ rest)

-- Messages are these texts. If the first message is too long to be read, another text may stand in for it.
abbrev pub AreReadFor : Bool → List (List ℕ) → List (List ℕ) → Type 0
AreReadFor false messages texts = messages ≡ texts
AreReadFor true messages texts = DifferInFirst (text_limit + 1) messages texts

-- Bytes are held in place of those that came: whatever follows, they are cut into the same messages, except for one that is too long.
abbrev pub IsHeld : Bool → List ℕ → List ℕ → Type 0
IsHeld is_long held came = (more : List ℕ) → AreReadFor is_long (messages_of (came ++ more)) (messages_of (held ++ more))

-- The message that is left after these texts is too long: there are none and it was too long before, or it has become so.
abbrev pub is_left_long : Bool → List (List ℕ) → List ℕ → Bool
is_left_long was_long [] left = was_long || ltb text_limit (length left)
is_left_long was_long (text ∷ texts) left = ltb text_limit (length left)

-- The first messages of some bytes, and what is left, whatever bytes come after these.
abbrev pub StaysCutInto : List ℕ → List (List ℕ) → List ℕ → Type 0
StaysCutInto bytes texts left = (more : List ℕ) → messages_of (bytes ++ more) ≡ texts ++ messages_of (left ++ more)

-- an inbox has what is kept of the messages that came, the refusals, and what they tell of the followed UID
pub record KeepsMessages (about : Option (List ℕ)) (messages : List Placed) (inbox : OpenInbox) : Type 0 where
  pub heard : List Item
  pub hears : Hears messages heard inbox.refusals
  pub tells : AreTold about messages inbox.told.items
  pub keeps : AreKept inbox.state heard

-- Messages came to an inbox. It has heard the first of them; the others are those of the sources that wait.
pub record HasGot (about : Option (List ℕ)) (messages : List Placed) (inbox : OpenInbox) : Type 0 where
  pub done : List Placed
  pub whole : messages ≡ done ++ waiting_of inbox.waiting.items
  pub keeps : KeepsMessages about done inbox

-- some messages came to an inbox; which ones is not said
pub record HasSome (about : Option (List ℕ)) (inbox : OpenInbox) : Type 0 where
  pub messages : List Placed
  pub got : HasGot about messages inbox

-- Messages of an input came so far, after others, and led from the one inbox to the other; and this is left of the input.
pub record ReadsSoFar (about : Option (List ℕ)) (before : List Placed) (start now : OpenInbox) (old new : Option (List ℕ))
    (held : Held) : Type 0 where
  pub messages : List (List ℕ)
  pub came : List ℕ
  pub got : HasGot about (before ++ placed_from start.source (start.messages + 1) messages) now
  pub leaves : LeavesMessages old new messages came
  pub is_held : IsHeld held.is_long held.octets.items came
  pub count_is : now.messages ≡ start.messages + length messages

-- Bytes came, and others follow. Their first messages were heard, which led from the one inbox to the other, and this is held of
-- what is left.
pub record HearsFirst (about : Option (List ℕ)) (came more : List ℕ) (next : Held) (old new : OpenInbox) : Type 0 where
  pub texts : List (List ℕ)
  pub left : List ℕ
  pub cut : messages_of (came ++ more) ≡ texts ++ messages_of (left ++ more)
  pub is_held : IsHeld next.is_long next.octets.items left
  pub hears : (before : List Placed) → HasGot about before old →
      HasGot about (before ++ placed_from old.source (old.messages + 1) texts) new
  pub count_is : new.messages ≡ old.messages + length texts

-- Bytes were read after those that were held, and up to the end of the input if the last argument says so.
abbrev pub Fills : Option (List ℕ) → Option (List ℕ) → List ℕ → List ℕ → Bool → Type 0
Fills old new before after ended = Brings old new before after × (IsTrue ended → IsAtEnd new)

-- Between two inputs: those before this place were read to their ends, and these readers are left for the others.
pub record HearsInTurn {R : Type 0} (remaining : R → Option (List ℕ)) (about : Option (List ℕ)) (inputs : List (List ℕ)) (left : List R)
    (inbox : OpenInbox) : Type 0 where
  pub done : List (List ℕ)
  pub rest : List (List ℕ)
  pub messages : List (List (List ℕ))
  pub whole : inputs ≡ done ++ rest
  pub are_left : AreInputs remaining left rest
  pub cut : AllZip IsCutInto done messages
  pub got : HasGot about (placed_of 0 messages) inbox
  pub source_is : inbox.source ≡ length messages
