-- The explanation of a UID over inputs.
use Rattle.std.proofs.Common.{◌≡◌, ◌≢◌, ◌∙◌, sym, ap, refl, subst, ℕ, Bool, List, [], ◌∷◌, ◌++◌, Option, Some, Result, Ok, Err, inr}
use Rattle.std.specs.Io.KnownBytes.{Appends}
use Rattle.std.specs.List.{Contains, filter}
use Rattle.std.proofs.lemmas.List.{map-append}
use Rattle.std.proofs.lemmas.List.Elements.{filter-append}
use Rattle.std.proofs.lemmas.Slice.Eq.{bytes_eq-Decides}
use Rattle.itip_explain.specs.Explanation.{IsExplanation}
use Rattle.itip_explain.specs.Told as explain
use Rattle.itip_explain.specs.declared.told.Place.{Place}
use Rattle.itip_explain.specs.declared.told.ToldItem.{ToldItem}
use Rattle.itip_items.specs.KeyParts.{uid_of}
use Rattle.itip_items.specs.declared.item.Item.{Item}
use Rattle.itip_message.specs.declared.error.MessageRefusal.{MessageRefusal}
use Rattle.itip_state.specs.Kept.{AreOf}
use Rattle.itip_state.proofs.Members.{none_in, cons_first}
use Rattle.itip_view.proofs.Showing.{in_filter, passes, into_filter}
use Rattle.itip_streams.specs.Written.{AppendsFront, WritesOutput}
use Rattle.itip_streams.specs.declared.source_name.SourceName.{SourceName}
use Rattle.itip_inbox.specs.declared.refused.RefusedMessage.{RefusedMessage}
use Rattle.itip_inbox.specs.Explaining.{TellsOf, IsExplained}
use Rattle.itip_inbox.specs.Following.{is_about, told_in, place_of, told_at, AreTold, TellAbout}
use Rattle.itip_inbox.specs.Inbox.{Placed, placed_of, AreAnswers, heard_of, refusals_at, IsInbox, Holds, is_some_refused}
use Rattle.itip_inbox.specs.OfInbox.{WritesFront}
use Rattle.itip_inbox.proofs.Telling.{heard_told}

items_in : (place : Place) (items : List Item) → explain.heard_of (told_in place items) ≡ items
items_in place [] = refl
items_in place (item ∷ items) = ap (λ (rest : List Item). item ∷ rest) (items_in place items)

-- what is told of a UID is the items of this UID among all that are heard
told_items : (uid : List ℕ) (messages : List Placed) (answers : List (Result (List Item) MessageRefusal)) → AreAnswers messages answers →
    explain.heard_of (told_at (Some uid) messages answers) ≡ filter (is_about uid) (heard_of answers)
told_items uid [] [] each = refl
told_items uid [] (x ∷ xs) each = absurd each
told_items uid (m ∷ ms) [] each = absurd each
told_items uid (m ∷ ms) (Ok items ∷ xs) each =
    let here : List Item = filter (is_about uid) items in
    map-append (λ (one : ToldItem). one.item) (told_in (place_of m) here) (told_at (Some uid) ms xs) ∙
    ap (λ (t : List Item). t ++ explain.heard_of (told_at (Some uid) ms xs)) (items_in (place_of m) here) ∙
    ap (λ (t : List Item). here ++ t) (told_items uid ms xs each.1) ∙
    sym (filter-append (is_about uid) items (heard_of xs))
told_items uid (m ∷ ms) (Err cause ∷ xs) each = told_items uid ms xs each.1

told_are : (uid : List ℕ) (messages : List Placed) (told : List ToldItem) → (tell : AreTold (Some uid) messages told) →
    explain.heard_of told ≡ filter (is_about uid) (heard_of tell.answers)
told_are uid messages told tell = ap explain.heard_of tell.told_are ∙ told_items uid messages tell.answers tell.each

-- all that is told is of this UID
pub told_of_uid : (uid : List ℕ) (messages : List Placed) (told : List ToldItem) → AreTold (Some uid) messages told →
    AreOf uid (explain.heard_of told)
told_of_uid uid messages told tell item h =
    (bytes_eq-Decides (uid_of item.key) uid).0 (passes (is_about uid) (heard_of tell.answers) item
    (subst (λ (items : List Item). Contains items item) (told_are uid messages told tell) h))

-- what is heard if this is told
its_inbox : (uid : List ℕ) (inputs : List (List ℕ)) (told : List ToldItem) → (is : TellAbout (Some uid) inputs told) →
    IsInbox inputs (heard_of is.tell.answers) (refusals_at (placed_of 0 is.messages) is.tell.answers)
its_inbox uid inputs told is = record {
  messages = is.messages;
  cut = is.cut;
  hears = record { answers = is.tell.answers; each = is.tell.each; heard_are = refl; refusals_are = refl };
}

pub none_told : (uid : List ℕ) (inputs : List (List ℕ)) (told : List ToldItem) → TellAbout (Some uid) inputs told → told ≡ [] →
    ¬ TellsOf uid inputs
none_told uid inputs told is none some =
    let all : List Item = heard_of is.tell.answers in
    let heard : Contains all some.item = (heard_told inputs all (refusals_at (placed_of 0 is.messages) is.tell.answers)
    (its_inbox uid inputs told is) some.item).1 some.tells in
    let among : Contains (filter (is_about uid) all) some.item =
    into_filter (is_about uid) all some.item heard ((bytes_eq-Decides (uid_of some.item.key) uid).1 some.about) in
    none_in some.item (subst (λ (items : List Item). Contains items some.item)
    (sym (told_are uid (placed_of 0 is.messages) told is.tell) ∙ ap explain.heard_of none) among)

pub some_told : (uid : List ℕ) (inputs : List (List ℕ)) (told : List ToldItem) → TellAbout (Some uid) inputs told → told ≢ [] →
    TellsOf uid inputs
some_told uid inputs [] is some = absurd (some refl)
some_told uid inputs (one ∷ told) is some =
    let all : List Item = heard_of is.tell.answers in
    let first : Contains (explain.heard_of (one ∷ told)) one.item = cons_first one.item (explain.heard_of told) in
    let among : Contains all one.item = in_filter (is_about uid) all one.item
    (subst (λ (items : List Item). Contains items one.item) (told_are uid (placed_of 0 is.messages) (one ∷ told) is.tell) first) in
    record {
      item = one.item;
      tells = (heard_told inputs all (refusals_at (placed_of 0 is.messages) is.tell.answers) (its_inbox uid inputs (one ∷ told) is)
          one.item).0 among;
      about = told_of_uid uid (placed_of 0 is.messages) (one ∷ told) is.tell one.item first;
    }

-- ---- what is written

module _ (uid : List ℕ) (names : List SourceName) (inputs : List (List ℕ)) (told : List ToldItem) (text : List ℕ) (kept : List Item)
    (refusals : List RefusedMessage) (tell : TellAbout (Some uid) inputs told) (explains : IsExplanation uid told names text)
    (holds : Holds inputs kept refusals) where
  is_explained : (refused : Bool) → refused ≡ is_some_refused refusals → IsExplained uid names inputs text refused
  is_explained refused is = record {
    told = told;
    tell = tell;
    explains = explains;
    heard = holds.heard;
    refusals = refusals;
    inbox = holds.inbox;
    refused_is = is;
  }

  pub explained_written : (old new : Option (List ℕ)) (refused : Bool) → Appends old new text → refused ≡ is_some_refused refusals →
      WritesOutput (IsExplained uid names inputs) old new refused
  explained_written old new refused appended is = record { output = text; is_output = is_explained refused is; appended = appended }

  pub explained_front : (old new : Option (List ℕ)) → AppendsFront old new text → WritesFront (IsExplained uid names inputs) old new
  explained_front old new front = inr (text, is_some_refused refusals, is_explained (is_some_refused refusals) refl, front)
