-- A draft has one request or one cause why there is none, and both depend only on what is kept.
use Rattle.std.proofs.Common.{◌≡◌, ◌≢◌, ◌∙◌, sym, ap, refl, ℕ, List, [], ◌∷◌, map, subst, ◌⊎◌, inl, inr, Some, None}
use Rattle.std.specs.List.{Contains}
use Rattle.std.proofs.lemmas.Option.{same_Some}
use Rattle.itip_moment.specs.declared.stamp.Stamp.{Stamp}
use Rattle.itip_todo.specs.PartsOf.{parts_of}
use Rattle.itip_todo.specs.declared.todo.Todo.{Todo}
use Rattle.itip_items.specs.declared.item.Item.{Item}
use Rattle.itip_items.specs.declared.kind.Method.TheVariants as method
use Rattle.itip_message.specs.Message.{RefusesMessage}
use Rattle.itip_message.specs.declared.error.MessageRefusal.{MessageRefusal}
use Rattle.itip_message.proofs.OneMessage.{message_apart, one_cause}
use Rattle.itip_state.specs.Kept.{AreKept}
use Rattle.itip_state.proofs.Members.{none_in, cons_cases}
use Rattle.itip_report.specs.NextSequence.{IsNext}
use Rattle.itip_report.proofs.OfKept.{next_of_kept}
use Rattle.itip_report.proofs.OneReport.{one_next}
use Rattle.itip_writing.specs.Requesting.{AreRequested, CannotRequest, HasNoSequence, HasTwins, HaveSequences, IsRefusedRequest}
use Rattle.itip_writing.specs.Requesting.{IsRequest, IsRequested, IsRequestText, requested}
use Rattle.itip_writing.specs.Sent.{sent_octets}
use Rattle.itip_writing.specs.declared.error.WritingError.{WritingError}
use Rattle.itip_writing.specs.declared.error.WritingError.TheVariants as error
use Rattle.itip_writing.proofs.Requested.{have_sequences}
use Rattle.itip_writing.proofs.Twins.{twins_apart}

-- ---- one text

same_parts : (heard : List Item) (at : Stamp) (todo a b : Todo) → IsRequested heard at todo a → IsRequested heard at todo b →
    parts_of a ≡ parts_of b
same_parts heard at todo a b h k =
    let one : h.sequence ≡ k.sequence = same_Some h.sequence k.sequence
    (one_next heard todo.uid (Some h.sequence) (Some k.sequence) h.next k.next) in
    h.parts_are ∙ ap (λ (n : ℕ). requested at n (parts_of todo)) one ∙ sym k.parts_are

same_written : (heard : List Item) (at : Stamp) (draft a b : List Todo) → AreRequested heard at draft a → AreRequested heard at draft b →
    map parts_of a ≡ map parts_of b
same_written heard at [] [] [] h k = refl
same_written heard at [] [] (y ∷ b) h k = absurd k
same_written heard at [] (x ∷ a) b h k = absurd h
same_written heard at (todo ∷ draft) [] b h k = absurd h
same_written heard at (todo ∷ draft) (x ∷ a) [] h k = absurd k
same_written heard at (todo ∷ draft) (x ∷ a) (y ∷ b) h k =
    λ i. same_parts heard at todo x y h.0 k.0 i ∷ same_written heard at draft a b h.1 k.1 i

one_text : (heard : List Item) (draft : List Todo) (at : Stamp) (a b : List ℕ) → IsRequestText heard draft at a →
    IsRequestText heard draft at b → a ≡ b
one_text heard draft at a b h k =
    h.octets_are ∙ ap (sent_octets method.Request) (same_written heard at draft h.written k.written h.each k.each) ∙ sym k.octets_are

pub one_octets : (heard : List Item) (draft : List Todo) (at : Stamp) (a b : List ℕ) → IsRequest heard draft at a →
    IsRequest heard draft at b → a ≡ b
one_octets heard draft at a b h k = one_text heard draft at a b h.text k.text

-- ---- one cause

abbrev HasNext : List Item → Todo → Type 0
HasNext heard todo = (sequence : ℕ) × IsNext heard todo.uid (Some sequence)

next_there : (heard : List Item) (draft : List Todo) → HaveSequences heard draft → (todo : Todo) → Contains draft todo → HasNext heard todo
next_there heard [] have todo there = absurd (none_in todo there)
next_there heard (first ∷ draft) have todo there =
    elim (cons_cases first draft todo there) [
      | inl same ↦ subst (HasNext heard) same have.0
      | inr later ↦ next_there heard draft have.1 todo later
    ]

not_spent : (heard : List Item) (draft : List Todo) → HaveSequences heard draft → HasNoSequence heard draft → ⊥
not_spent heard draft have spent =
    let some = next_there heard draft have spent.todo spent.there in
    let no : None ≡ Some some.0 = one_next heard spent.todo.uid None (Some some.0) spent.last some.1 in
    absurd cc

abbrev Why : List Item → List Todo → Stamp → WritingError → Type 0
Why heard draft at e =
    ((e ≡ error.NoSequenceLeft) × HasNoSequence heard draft)
    ⊎ (((e ≡ error.TwoOfOneKey) × HaveSequences heard draft × HasTwins draft)
    ⊎ ((refusal : MessageRefusal) × (e ≡ error.Unreadable refusal) × IsRefusedRequest heard draft at refusal))

why : (heard : List Item) (draft : List Todo) (at : Stamp) (e : WritingError) → CannotRequest heard draft at e → e ≢ error.NoMemory →
    Why heard draft at e
why heard draft at error.NothingStands h some = absurd h
why heard draft at error.NoSuchAttendee h some = absurd h
why heard draft at error.NoSequenceLeft h some = inl (refl, h)
why heard draft at error.AnswerOvertakes h some = absurd h
why heard draft at error.TwoOfOneKey h some = inr (inl (refl, h.0, h.1))
why heard draft at error.NoTimeLeft h some = absurd h
why heard draft at (error.Unreadable refusal) h some = inr (inr (refusal, refl, h))
why heard draft at error.NoMemory h some = absurd (some refl)

module _ (heard : List Item) (draft : List Todo) (at : Stamp) where
  text_sequences : (octets : List ℕ) → IsRequestText heard draft at octets → HaveSequences heard draft
  text_sequences octets text = have_sequences heard at draft text.written text.each

  -- where there is a text, the only cause is that it is refused
  text_apart : (octets : List ℕ) (e : WritingError) → IsRequestText heard draft at octets → Why heard draft at e →
      (refusal : MessageRefusal) × (e ≡ error.Unreadable refusal) × RefusesMessage octets refusal
  text_apart octets e text (inl spent) = absurd (not_spent heard draft (text_sequences octets text) spent.1)
  text_apart octets e text (inr (inl twins)) = absurd (twins_apart draft twins.2 text.apart)
  text_apart octets e text (inr (inr unread)) = (
    unread.0,
    unread.1,
    subst (λ (text : List ℕ). RefusesMessage text unread.0)
        (one_text heard draft at unread.2.octets octets unread.2.text text) unread.2.refused,
  )

  request_apart : (octets : List ℕ) (e : WritingError) → IsRequest heard draft at octets → Why heard draft at e → ⊥
  request_apart octets e is because =
      let refused = text_apart octets e is.text because in
      message_apart octets is.readable.items refused.0 is.readable.reads refused.2

  -- if there is a request, only memory can be lacking
  pub only_memory : (octets : List ℕ) (e : WritingError) → IsRequest heard draft at octets → CannotRequest heard draft at e →
      e ≡ error.NoMemory
  only_memory octets error.NoMemory is h = refl
  only_memory octets error.NothingStands is h = absurd h
  only_memory octets error.NoSuchAttendee is h = absurd h
  only_memory octets error.NoSequenceLeft is h = absurd (request_apart octets error.NoSequenceLeft is (inl (refl, h)))
  only_memory octets error.AnswerOvertakes is h = absurd h
  only_memory octets error.TwoOfOneKey is h = absurd (request_apart octets error.TwoOfOneKey is (inr (inl (refl, h.0, h.1))))
  only_memory octets error.NoTimeLeft is h = absurd h
  only_memory octets (error.Unreadable refusal) is h =
      absurd (request_apart octets (error.Unreadable refusal) is (inr (inr (refusal, refl, h))))

  one_why : (e f : WritingError) → Why heard draft at e → Why heard draft at f → e ≡ f
  one_why e f (inl h) (inl k) = h.0 ∙ sym k.0
  one_why e f (inl h) (inr (inl k)) = absurd (not_spent heard draft k.1 h.1)
  one_why e f (inl h) (inr (inr k)) = absurd (not_spent heard draft (text_sequences k.2.octets k.2.text) h.1)
  one_why e f (inr (inl h)) (inl k) = absurd (not_spent heard draft h.1 k.1)
  one_why e f (inr (inl h)) (inr (inl k)) = h.0 ∙ sym k.0
  one_why e f (inr (inl h)) (inr (inr k)) = absurd (twins_apart draft h.2 k.2.text.apart)
  one_why e f (inr (inr h)) k =
      let refused = text_apart h.2.octets f h.2.text k in
      h.1 ∙ ap error.Unreadable (one_cause h.2.octets h.0 refused.0 h.2.refused refused.2) ∙ sym refused.1

  pub one_error : (e f : WritingError) → CannotRequest heard draft at e → CannotRequest heard draft at f → e ≢ error.NoMemory →
      f ≢ error.NoMemory → e ≡ f
  one_error e f h k some also = one_why e f (why heard draft at e h some) (why heard draft at f k also)

-- ---- it depends only on what is kept

module _ (kept heard : List Item) (are : AreKept kept heard) (draft : List Todo) (at : Stamp) where
  each_of_kept : (rest written : List Todo) → AreRequested kept at rest written → AreRequested heard at rest written
  each_of_kept [] [] each = tt
  each_of_kept [] (w ∷ written) each = each
  each_of_kept (todo ∷ rest) [] each = each
  each_of_kept (todo ∷ rest) (w ∷ written) each = (
    record {
      sequence = each.0.sequence;
      next = next_of_kept kept heard are todo.uid (Some each.0.sequence) each.0.next;
      parts_are = each.0.parts_are;
    },
    each_of_kept rest written each.1,
  )

  text_of_kept : (octets : List ℕ) → IsRequestText kept draft at octets → IsRequestText heard draft at octets
  text_of_kept octets text = record {
    written = text.written;
    each = each_of_kept draft text.written text.each;
    apart = text.apart;
    octets_are = text.octets_are;
  }

  pub request_of_kept : (octets : List ℕ) → IsRequest kept draft at octets → IsRequest heard draft at octets
  request_of_kept octets is = record { text = text_of_kept octets is.text; readable = is.readable }

  sequences_of_kept : (rest : List Todo) → HaveSequences kept rest → HaveSequences heard rest
  sequences_of_kept [] have = tt
  sequences_of_kept (todo ∷ rest) have =
      ((have.0.0, next_of_kept kept heard are todo.uid (Some have.0.0) have.0.1), sequences_of_kept rest have.1)

  pub cause_of_kept : (e : WritingError) → CannotRequest kept draft at e → CannotRequest heard draft at e
  cause_of_kept error.NothingStands h = h
  cause_of_kept error.NoSuchAttendee h = h
  cause_of_kept error.NoSequenceLeft h =
      record { todo = h.todo; there = h.there; last = next_of_kept kept heard are h.todo.uid None h.last }
  cause_of_kept error.AnswerOvertakes h = h
  cause_of_kept error.TwoOfOneKey h = (sequences_of_kept draft h.0, h.1)
  cause_of_kept error.NoTimeLeft h = h
  cause_of_kept (error.Unreadable refusal) h =
      record { octets = h.octets; text = text_of_kept h.octets h.text; refused = h.refused }
  cause_of_kept error.NoMemory h = h
