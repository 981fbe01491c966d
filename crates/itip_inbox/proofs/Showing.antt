-- What is shown of a text.
use Rattle.std.proofs.Common.{◌≡◌, ◌∙◌, sym, ap, refl, subst, ℕ, ◌<◌, Bool, List, length, inl, inr, Option, Some, None, Result, Ok, Err}
use Rattle.std.specs.Prelude.{IfOk, IfSome, is_some}
use Rattle.std.specs.Io.KnownBytes.{Appends}
use Rattle.itip_lines.specs.Reading.{too_long}
use Rattle.itip_items.specs.declared.item.Item.{Item}
use Rattle.itip_message.specs.Message.{at_lines}
use Rattle.itip_message.specs.RefusalNumbers.{number_of}
use Rattle.itip_message.specs.declared.error.MessageRefusal.{MessageRefusal}
use Rattle.itip_message.specs.Refusals.{of_lines}
use Rattle.itip_message.proofs.OneMessage.{one_message, one_cause, message_apart}
use Rattle.itip_state.specs.Kept.{IsItemsOf}
use Rattle.itip_desk.specs.DeltaFormat.{GivesBatch}
use Rattle.itip_desk.specs.Refusals.{refused_text}
use Rattle.itip_streams.specs.Written.{AppendsFront, WritesOutput}
use Rattle.itip_streams.specs.declared.fault.StreamFault.{StreamFault}
use Rattle.itip_inbox.specs.declared.shown.Shown.{Shown}
use Rattle.itip_inbox.specs.Shown.{items_text, IsShownAs, IsShown}
use Rattle.itip_streams.proofs.Writing.{front_none}
use Rattle.itip_inbox.proofs.Outputs.{same_items}

-- ---- what was read

shown_of_read : (read : Option (List ℕ)) (text shown : List ℕ) (refusal : Option MessageRefusal) → IfSome read (λ input. text ≡ input) →
    IsShownAs text refusal shown → IfSome read (λ input. IsShownAs input refusal shown)
shown_of_read None text shown refusal same is = tt
shown_of_read (Some input) text shown refusal same is = subst (λ (t : List ℕ). IsShownAs t refusal shown) same is

pub read_whole : (read : Option (List ℕ)) (text slice : List ℕ) (r : Result Shown StreamFault) → IfSome read (λ input. text ≡ input) →
    slice ≡ text → IfOk r (λ shown. IsShownAs slice shown.refusal shown.text.items)
    → IfOk r (λ shown. IfSome read (λ input. IsShownAs input shown.refusal shown.text.items))
read_whole read text slice (Ok shown) same sliced is =
    shown_of_read read text shown.text.items shown.refusal same
    (subst (λ (t : List ℕ). IsShownAs t shown.refusal shown.text.items) sliced is)
read_whole read text slice (Err fault) same sliced is = tt

-- a text that is too long is refused for it
shown_of_long : (read : Option (List ℕ)) (shown : List ℕ) (refusal : Option MessageRefusal) →
    IfSome read (λ input. 1048576 < length input) → refusal ≡ Some (of_lines too_long) → shown ≡ refused_text 1 →
    IfSome read (λ input. IsShownAs input refusal shown)
shown_of_long None shown refusal long is text = tt
shown_of_long (Some input) shown refusal long is text =
    subst (λ (r : Option MessageRefusal). IsShownAs input r shown) (sym is)
    (record { refuses = at_lines too_long (inl (refl, long)); shown_is = text })

pub read_too_long : (read : Option (List ℕ)) (refusal : MessageRefusal) (r : Result Shown StreamFault) →
    IfSome read (λ input. 1048576 < length input) → refusal ≡ of_lines too_long → IfOk r (λ shown. shown.refusal ≡ Some refusal)
    → IfOk r (λ shown. shown.text.items ≡ refused_text (number_of refusal)) →
    IfOk r (λ shown. IfSome read (λ input. IsShownAs input shown.refusal shown.text.items))
read_too_long read refusal (Ok shown) long is named told =
    shown_of_long read shown.text.items shown.refusal long (named ∙ ap Some is) (told ∙
    ap (λ (r : MessageRefusal). refused_text (number_of r)) is)
read_too_long read refusal (Err fault) long is named told = tt

-- ---- one thing is shown of a text

one_batch : (text : List ℕ) (xs ys : List Item) → GivesBatch text xs → GivesBatch text ys → xs ≡ ys
one_batch text xs ys a b =
    let same : a.items ≡ b.items = one_message text a.items b.items a.reads b.reads in
    same_items xs ys b.items (subst (λ (items : List Item). IsItemsOf xs items) same a.batch_is) b.batch_is

pub shown_once : (text xs ys : List ℕ) (refused other : Bool) → IsShown text xs refused → IsShown text ys other → xs ≡ ys
shown_once text xs ys refused other (inl a) (inl b) =
    a.0.shown_is ∙ ap items_text (one_batch text a.0.batch b.0.batch a.0.gives b.0.gives) ∙ sym b.0.shown_is
shown_once text xs ys refused other (inl a) (inr b) =
    absurd (message_apart text a.0.gives.items b.0.0 a.0.gives.reads b.0.1.refuses)
shown_once text xs ys refused other (inr a) (inl b) =
    absurd (message_apart text b.0.gives.items a.0.0 b.0.gives.reads a.0.1.refuses)
shown_once text xs ys refused other (inr a) (inr b) =
    a.0.1.shown_is ∙ ap (λ (r : MessageRefusal). refused_text (number_of r)) (one_cause text a.0.0 b.0.0 a.0.1.refuses b.0.1.refuses) ∙
    sym b.0.1.shown_is

as_shown : (text shown : List ℕ) (refusal : Option MessageRefusal) → IsShownAs text refusal shown → IsShown text shown (is_some refusal)
as_shown text shown None is = inl (is, refl)
as_shown text shown (Some refusal) is = inr ((refusal, is), refl)

-- ---- what was written

pub shown_written : (old new read : Option (List ℕ)) (shown : List ℕ) (refusal : Option MessageRefusal) (refused : Bool) →
    IfSome read (λ text. IsShownAs text refusal shown) → Appends old new shown → refused ≡ is_some refusal
    → IfSome read (λ text. WritesOutput (IsShown text) old new refused)
shown_written old new None shown refusal refused is appended known = tt
shown_written old new (Some text) shown refusal refused is appended known =
    record {
      output = shown;
      is_output = subst (λ (b : Bool). IsShown text shown b) (sym known) (as_shown text shown refusal is);
      appended = appended;
    }

pub shown_front : (old new read : Option (List ℕ)) (shown : List ℕ) (refusal : Option MessageRefusal) →
    IfSome read (λ text. IsShownAs text refusal shown) → AppendsFront old new shown
    → IfSome read (λ text. (other : List ℕ) (refused : Bool) → IsShown text other refused → AppendsFront old new other)
shown_front old new None shown refusal is front = tt
shown_front old new (Some text) shown refusal is front = λ other refused known.
    subst (λ (t : List ℕ). AppendsFront old new t)
    (shown_once text shown other (is_some refusal) refused (as_shown text shown refusal is) known) front

pub shown_unread : (o read : Option (List ℕ)) →
    IfSome read (λ text. (shown : List ℕ) (refused : Bool) → IsShown text shown refused → AppendsFront o o shown)
shown_unread o None = tt
shown_unread o (Some text) = λ shown refused is. front_none o shown
