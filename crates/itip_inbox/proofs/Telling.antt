-- The items that inputs tell are those of their messages.
use Rattle.std.proofs.Common.{◌≡◌, ◌∙◌, sym, ap, refl, subst, ℕ, ◌+◌, ◌↔◌, ◌⊎◌, List, [], ◌∷◌, ◌++◌, map, inl, inr, Result, Ok, Err}
use Rattle.std.specs.List.{Contains, AllZip}
use Rattle.std.proofs.lemmas.List.{map-append}
use Rattle.std.proofs.lemmas.List.Elements.{Contains-append_cases, Contains-append_left, Contains-append_right}
use Rattle.itip_message.specs.Cutting.{IsCutInto}
use Rattle.itip_message.specs.Message.{ReadsMessage}
use Rattle.itip_message.specs.declared.error.MessageRefusal.{MessageRefusal}
use Rattle.itip_items.specs.declared.item.Item.{Item}
use Rattle.itip_message.proofs.OneMessage.{one_message, message_apart}
use Rattle.itip_message.proofs.OneCut.{one_cut}
use Rattle.itip_state.proofs.Members.{none_in, cons_cases, cons_first, cons_later}
use Rattle.itip_view.specs.Blocks.{joined}
use Rattle.itip_inbox.specs.declared.refused.RefusedMessage.{RefusedMessage}
use Rattle.itip_inbox.specs.Inbox.{Placed, placed_from, placed_of, AreAnswers, heard_of, IsInbox}
use Rattle.itip_inbox.specs.Compaction.{HasMessage, HaveSameMessages, TellsItem, TellSameItems}
use Rattle.itip_inbox.proofs.OneInbox.{one_inbox}
use Rattle.itip_inbox.proofs.SomeInbox.{some_inbox}

-- what is heard of inputs is what they tell
pub heard_told : (inputs : List (List ℕ)) (heard : List Item) (refusals : List RefusedMessage) → IsInbox inputs heard refusals →
    (item : Item) → Contains heard item ↔ TellsItem inputs item
heard_told inputs heard refusals inbox item = (
  λ h. record { heard = heard; refusals = refusals; inbox = inbox; among = h },
  λ t. subst (λ (items : List Item). Contains items item) (one_inbox inputs t.heard heard t.refusals refusals t.inbox inbox).0 t.among,
)

-- ---- the texts of messages

abbrev texts : List Placed → List (List ℕ)
texts messages = map (λ (p : Placed). p.text) messages

texts_from : (source n : ℕ) (ts : List (List ℕ)) → texts (placed_from source n ts) ≡ ts
texts_from source n [] = refl
texts_from source n (t ∷ ts) = ap (λ (rest : List (List ℕ)). t ∷ rest) (texts_from source (n + 1) ts)

texts_of : (source : ℕ) (all : List (List (List ℕ))) → texts (placed_of source all) ≡ joined all
texts_of source [] = refl
texts_of source (ts ∷ all) =
    map-append (λ (p : Placed). p.text) (placed_from source 1 ts) (placed_of (source + 1) all) ∙
    ap (λ (first : List (List ℕ)). first ++ texts (placed_of (source + 1) all)) (texts_from source 1 ts) ∙
    ap (λ (rest : List (List ℕ)). ts ++ rest) (texts_of (source + 1) all)

pub has_among : (inputs others : List (List ℕ)) → ((input : List ℕ) → Contains inputs input → Contains others input) →
    (message : List ℕ) → HasMessage inputs message → HasMessage others message
has_among inputs others among message has = record {
  input = has.input;
  given = among has.input has.given;
  messages = has.messages;
  cut = has.cut;
  among = has.among;
}

-- what the inputs are cut into has their messages
flat_has : (inputs : List (List ℕ)) (all : List (List (List ℕ))) → AllZip IsCutInto inputs all → (message : List ℕ) →
    Contains (joined all) message → HasMessage inputs message
flat_has [] [] cut message h = absurd (none_in message h)
flat_has [] (ts ∷ all) cut message h = absurd cut
flat_has (input ∷ inputs) [] cut message h = absurd cut
flat_has (input ∷ inputs) (ts ∷ all) cut message h =
    elim (Contains-append_cases ts (joined all) message h) [
      | inl here ↦ record { input = input; given = cons_first input inputs; messages = ts; cut = cut.0; among = here }
      | inr later ↦ has_among inputs (input ∷ inputs) (cons_later input inputs) message (flat_has inputs all cut.1 message later)
    ]

in_flat : (inputs : List (List ℕ)) (all : List (List (List ℕ))) → AllZip IsCutInto inputs all → (input : List ℕ)
    (messages : List (List ℕ)) (message : List ℕ) → Contains inputs input → IsCutInto input messages → Contains messages message →
    Contains (joined all) message
in_flat [] all cut input messages message h own among = absurd (none_in input h)
in_flat (t ∷ inputs) [] cut input messages message h own among = absurd cut
in_flat (t ∷ inputs) (ts ∷ all) cut input messages message h own among =
    elim (cons_cases t inputs input h) [
      | inl is ↦
          let same : messages ≡ ts = one_cut t messages ts (subst (λ (i : List ℕ). IsCutInto i messages) (sym is) own) cut.0 in
          Contains-append_left ts (joined all) message (subst (λ (list : List (List ℕ)). Contains list message) same among)
      | inr later ↦ Contains-append_right ts (joined all) message (in_flat inputs all cut.1 input messages message later own among)
    ]

-- ---- the items of messages

-- an item of a message of which this holds
pub record Says (P : List ℕ → Type 0) (item : Item) : Type 0 where
  pub message : List ℕ
  pub has : P message
  pub items : List Item
  pub reads : ReadsMessage message items
  pub among : Contains items item

pub says_more : (P Q : List ℕ → Type 0) (item : Item) → ((message : List ℕ) → P message → Q message) → Says P item → Says Q item
says_more P Q item more s = record { message = s.message; has = more s.message s.has; items = s.items; reads = s.reads; among = s.among }

heard_says : (messages : List Placed) (answers : List (Result (List Item) MessageRefusal)) (item : Item) → AreAnswers messages answers →
    Contains (heard_of answers) item → Says (Contains (texts messages)) item
heard_says [] [] item each h = absurd (none_in item h)
heard_says [] (x ∷ xs) item each h = absurd each
heard_says (m ∷ ms) [] item each h = absurd each
heard_says (m ∷ ms) (Ok items ∷ xs) item each h =
    elim (Contains-append_cases items (heard_of xs) item h) [
      | inl left ↦ record { message = m.text; has = cons_first m.text (texts ms); items = items; reads = each.0; among = left }
      | inr right ↦ says_more (Contains (texts ms)) (Contains (texts (m ∷ ms))) item (cons_later m.text (texts ms))
          (heard_says ms xs item each.1 right)
    ]
heard_says (m ∷ ms) (Err cause ∷ xs) item each h =
    says_more (Contains (texts ms)) (Contains (texts (m ∷ ms))) item (cons_later m.text (texts ms)) (heard_says ms xs item each.1 h)

in_heard : (messages : List Placed) (answers : List (Result (List Item) MessageRefusal)) (item : Item) (message : List ℕ)
    (items : List Item) → AreAnswers messages answers → Contains (texts messages) message → ReadsMessage message items →
    Contains items item → Contains (heard_of answers) item
in_heard [] answers item message items each h reads among = absurd (none_in message h)
in_heard (m ∷ ms) [] item message items each h reads among = absurd each
in_heard (m ∷ ms) (Ok others ∷ xs) item message items each h reads among =
    elim (cons_cases m.text (texts ms) message h) [
      | inl is ↦
          let same : items ≡ others = one_message m.text items others (subst (λ (t : List ℕ). ReadsMessage t items) (sym is) reads) each.0
          in
          Contains-append_left others (heard_of xs) item (subst (λ (list : List Item). Contains list item) same among)
      | inr later ↦ Contains-append_right others (heard_of xs) item (in_heard ms xs item message items each.1 later reads among)
    ]
in_heard (m ∷ ms) (Err cause ∷ xs) item message items each h reads among =
    elim (cons_cases m.text (texts ms) message h) [
      | inl is ↦ absurd (message_apart m.text items cause (subst (λ (t : List ℕ). ReadsMessage t items) (sym is) reads) each.0)
      | inr later ↦ in_heard ms xs item message items each.1 later reads among
    ]

pub tells_says : (inputs : List (List ℕ)) (item : Item) → TellsItem inputs item → Says (HasMessage inputs) item
tells_says inputs item tells =
    let inbox : IsInbox inputs tells.heard tells.refusals = tells.inbox in
    says_more (Contains (texts (placed_of 0 inbox.messages))) (HasMessage inputs) item
    (λ m among. flat_has inputs inbox.messages inbox.cut m
    (subst (λ (list : List (List ℕ)). Contains list m) (texts_of 0 inbox.messages) among))
    (heard_says (placed_of 0 inbox.messages) inbox.hears.answers item inbox.hears.each
    (subst (λ (list : List Item). Contains list item) inbox.hears.heard_are tells.among))

pub says_tells : (inputs : List (List ℕ)) (item : Item) → Says (HasMessage inputs) item → TellsItem inputs item
says_tells inputs item s =
    let is = some_inbox inputs in
    let inbox : IsInbox inputs is.0 is.1 = is.2 in
    let has : HasMessage inputs s.message = s.has in
    let there : Contains (texts (placed_of 0 inbox.messages)) s.message =
    subst (λ (list : List (List ℕ)). Contains list s.message) (sym (texts_of 0 inbox.messages))
    (in_flat inputs inbox.messages inbox.cut has.input has.messages s.message has.given has.cut has.among) in
    record {
      heard = is.0;
      refusals = is.1;
      inbox = inbox;
      among = subst (λ (list : List Item). Contains list item) (sym inbox.hears.heard_are)
          (in_heard (placed_of 0 inbox.messages) inbox.hears.answers item s.message s.items inbox.hears.each there s.reads s.among);
    }

pub same_messages : (inputs others : List (List ℕ)) → HaveSameMessages inputs others → TellSameItems inputs others
same_messages inputs others same item = (
  λ t. says_tells others item (says_more (HasMessage inputs) (HasMessage others) item (λ m. (same m).0) (tells_says inputs item t)),
  λ t. says_tells inputs item (says_more (HasMessage others) (HasMessage inputs) item (λ m. (same m).1) (tells_says others item t)),
)

-- ---- what some inputs tell beside others

pub tells_none : (item : Item) → TellsItem [] item → ⊥
tells_none item tells =
    let s : Says (HasMessage []) item = tells_says [] item tells in
    let has : HasMessage [] s.message = s.has in
    none_in has.input has.given

pub tells_among : (inputs others : List (List ℕ)) → ((input : List ℕ) → Contains inputs input → Contains others input) →
    (item : Item) → TellsItem inputs item → TellsItem others item
tells_among inputs others among item tells = says_tells others item
    (says_more (HasMessage inputs) (HasMessage others) item (has_among inputs others among) (tells_says inputs item tells))

pub tells_either : (xs ys : List (List ℕ)) (item : Item) → TellsItem (xs ++ ys) item → TellsItem xs item ⊎ TellsItem ys item
tells_either xs ys item tells =
    let s : Says (HasMessage (xs ++ ys)) item = tells_says (xs ++ ys) item tells in
    let has : HasMessage (xs ++ ys) s.message = s.has in
    let of : (inputs : List (List ℕ)) → Contains inputs has.input → TellsItem inputs item =
    λ inputs given. says_tells inputs item (record {
      message = s.message;
      has = record { input = has.input; given = given; messages = has.messages; cut = has.cut; among = has.among };
      items = s.items;
      reads = s.reads;
      among = s.among;
    }) in
    elim (Contains-append_cases xs ys has.input has.given) [ inl left ↦ inl (of xs left) | inr right ↦ inr (of ys right) ]
