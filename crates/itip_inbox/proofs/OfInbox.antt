-- What is written of inputs: one text, made of what is kept.
use Rattle.std.proofs.Common.{◌≡◌, subst, refl, ℕ, Bool, ◌||◌, List, [], inl, inr, Option, Result, Ok, Err}
use Rattle.std.specs.Prelude.{OnOk, IfOk}
use Rattle.std.specs.Io.KnownBytes.{Appends}
use Rattle.std.proofs.KnownBytes.{Appends-nil}
use Rattle.itip_items.specs.declared.item.Item.{Item}
use Rattle.itip_state.specs.Kept.{AreKept}
use Rattle.itip_streams.specs.Written.{AppendsFront, WritesOutput}
use Rattle.itip_streams.proofs.Writing.{front_none}
use Rattle.itip_inbox.specs.declared.refused.RefusedMessage.{RefusedMessage}
use Rattle.itip_inbox.specs.Inbox.{AreInputs, Holds, is_some_refused}
use Rattle.itip_inbox.specs.OfInbox.{IsOfInbox, WritesFront, WritesKept, WritesKeptFront}
use Rattle.itip_inbox.proofs.OneInbox.{one_inbox}

module _ (Is : List Item → List ℕ → Bool → Type 0) (kept : List Item) (refusals : List RefusedMessage) (text : List ℕ) (refusal : Bool)
    (made : (heard : List Item) → AreKept kept heard → Is heard text refusal) where
  is_of_inbox : (inputs : List (List ℕ)) (refused : Bool) → Holds inputs kept refusals →
      refused ≡ (is_some_refused refusals || refusal) → IsOfInbox Is inputs text refused
  is_of_inbox inputs refused holds is = record {
    heard = holds.heard;
    refusals = refusals;
    inbox = holds.inbox;
    refusal = refusal;
    is_text = made holds.heard holds.keeps;
    refused_is = is;
  }

  module _ {R : Type 0} (remaining : R → Option (List ℕ)) (sources : List R) (old new : Option (List ℕ))
      (holds : (inputs : List (List ℕ)) → AreInputs remaining sources inputs → Holds inputs kept refusals) where
    -- all is written, and what is said of it
    pub all_written : {E : Type 0} (r : Result Bool E) → OnOk r (Appends old new text) →
        IfOk r (λ refused. refused ≡ (is_some_refused refusals || refusal)) →
        IfOk r (λ refused. (inputs : List (List ℕ)) → AreInputs remaining sources inputs →
        WritesOutput (IsOfInbox Is inputs) old new refused)
    all_written (Ok refused) appended is = λ inputs are.
        record { output = text; is_output = is_of_inbox inputs refused (holds inputs are) is; appended = appended }
    all_written (Err e) appended is = tt

    -- a prefix is written
    module _ (front : AppendsFront old new text) (inputs : List (List ℕ)) (are : AreInputs remaining sources inputs) where
      pub some_front : WritesFront (IsOfInbox Is inputs) old new
      some_front =
          inr (
            text,
            (is_some_refused refusals || refusal),
            is_of_inbox inputs (is_some_refused refusals || refusal) (holds inputs are) refl,
            front,
          )

      -- if there is one such text
      pub its_front : ((heard : List Item) (one other : List ℕ) (refusal more : Bool) → Is heard one refusal → Is heard other more →
          one ≡ other) → (other : List ℕ) (refused : Bool) → IsOfInbox Is inputs other refused → AppendsFront old new other
      its_front once other refused is =
          let here : Holds inputs kept refusals = holds inputs are in
          let same : is.heard ≡ here.heard = (one_inbox inputs is.heard here.heard is.refusals refusals is.inbox here.inbox).0 in
          subst (λ (t : List ℕ). AppendsFront old new t)
          (once here.heard text other refusal is.refusal (made here.heard here.keeps)
          (subst (λ (heard : List Item). Is heard other is.refusal) same is.is_text)) front

-- ---- what is written while it is made

module _ {R : Type 0} (Is : List Item → List ℕ → Bool → Type 0) (kept : List Item) (refusals : List RefusedMessage)
    (remaining : R → Option (List ℕ)) (sources : List R) (old new : Option (List ℕ))
    (holds : (inputs : List (List ℕ)) → AreInputs remaining sources inputs → Holds inputs kept refusals)
    (inputs : List (List ℕ)) (are : AreInputs remaining sources inputs) where
  pub kept_written : (refusal refused : Bool) → WritesKept Is kept old new refusal → refused ≡ (is_some_refused refusals || refusal) →
      WritesOutput (IsOfInbox Is inputs) old new refused
  kept_written refusal refused writes same = record {
    output = writes.text;
    is_output = is_of_inbox Is kept refusals writes.text refusal writes.is_text inputs refused (holds inputs are) same;
    appended = writes.appended;
  }

  pub kept_front : WritesKeptFront Is kept old new → WritesFront (IsOfInbox Is inputs) old new
  kept_front (inl none) = inl none
  kept_front (inr some) =
      some_front Is kept refusals some.text some.refusal some.is_text remaining sources old new holds some.appended inputs are

  -- if there is one such text
  pub one_kept_front : ((heard : List Item) (one other : List ℕ) (refusal more : Bool) → Is heard one refusal → Is heard other more →
      one ≡ other) → WritesKeptFront Is kept old new → (other : List ℕ) (refused : Bool) → IsOfInbox Is inputs other refused →
      AppendsFront old new other
  one_kept_front once (inl none) other refused is = record { front = []; rest = other; whole = refl; appended = none }
  one_kept_front once (inr some) other refused is =
      its_front Is kept refusals some.text some.refusal some.is_text remaining sources old new holds some.appended inputs are once other
      refused is

-- ---- nothing was written yet

module _ {R : Type 0} (remaining : R → Option (List ℕ)) (sources : List R) (Is : List (List ℕ) → List ℕ → Bool → Type 0)
    (o : Option (List ℕ)) (inputs : List (List ℕ)) (are : AreInputs remaining sources inputs) where
  pub unread_front : (text : List ℕ) (refused : Bool) → Is inputs text refused → AppendsFront o o text
  unread_front text refused is = front_none o text

  pub unwritten : WritesFront (Is inputs) o o
  unwritten = inl (Appends-nil o)
