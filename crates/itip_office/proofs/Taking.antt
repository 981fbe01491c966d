-- One more job whose text a desk took, or that is no text.
use Rattle.std.proofs.Common.{◌≡◌, ℕ, List, [], ◌∷◌, ◌++◌, All, inl, inr, refl, sym, ap, subst, ◌∙◌, append_assoc, append-nil}
use Rattle.std.specs.List.{Contains}
use Rattle.std.proofs.lemmas.List.Elements.{All-nil, All-push, Contains-append_cases, Contains-append_left, Contains-append_right}
use Rattle.itip_items.specs.declared.item.Item.{Item}
use Rattle.itip_message.proofs.OneMessage.{one_message}
use Rattle.itip_state.proofs.Members.{none_in, cons_cases, cons_first}
use Rattle.itip_desk.specs.Desk.{Shown, IsDeskOf}
use Rattle.itip_desk.specs.HeardSteps.{heard}
use Rattle.itip_office.specs.declared.job.Work.{Work}
use Rattle.itip_office.specs.declared.job.Work.TheVariants.{Text, Carry, Look}
use Rattle.itip_office.specs.declared.outcome.Outcome.{Outcome}
use Rattle.itip_office.specs.Texts.{IsBatchOf, IsText}
use Rattle.itip_office.specs.Answers.{Answer, AnswersMerged, IsTook}
use Rattle.itip_office.specs.Taken.{ReadsWork, IsTaken, AreTaken}
use Rattle.itip_office.specs.Merged.{IsMerged, TookText, TextThen, AreTexts, GrewTexts, HasMerged}

pub heard_both : (steps more : List (List Item)) → heard (steps ++ more) ≡ heard steps ++ heard more
heard_both [] more = refl
heard_both (step ∷ steps) more = ap (λ (l : List Item). step ++ l) (heard_both steps more) ∙
    sym (append_assoc step (heard steps) (heard more))

heard_push : (steps : List (List Item)) (step : List Item) → heard (steps ++ step ∷ []) ≡ heard steps ++ step
heard_push steps step = heard_both steps (step ∷ []) ∙ ap (λ (l : List Item). heard steps ++ l) (append-nil step)

-- the batch of a text has what the text reads as
batch_has : (desk : ℕ) (batch : List Item) (work : Work) (outcome : Outcome) → AnswersMerged desk batch work outcome →
    (items : List Item) → ReadsWork work items → (item : Item) → Contains items item → Contains batch item
batch_has desk batch (Text at bytes) outcome merged items reads item there =
    let b : IsBatchOf bytes batch = merged.0 in
    (b.is_items.same item).1 (subst (λ (l : List Item). Contains l item) (one_message bytes items b.items reads b.reads) there)
batch_has desk batch (Carry from to) outcome merged items reads item there = absurd reads
batch_has desk batch (Look at window) outcome merged items reads item there = absurd reads

-- an item of the batch of a text is of a text that was taken
text_taken : (desk : ℕ) (batch : List Item) (work : Work) (outcome : Outcome) → AnswersMerged desk batch work outcome → IsText work →
    (item : Item) → Contains batch item
    → IsTook outcome × ((items : List Item) × ReadsWork work items × Contains items item)
text_taken desk batch (Text at bytes) outcome merged text item there =
    let b : IsBatchOf bytes batch = merged.0 in
    (subst IsTook (sym merged.1) tt, (b.items, b.reads, (b.is_items.same item).0 there))
text_taken desk batch (Carry from to) outcome merged text item there = absurd text
text_taken desk batch (Look at window) outcome merged text item there = absurd text

-- a carry takes no text
carry_took : (desk : ℕ) (batch : List Item) (from to : ℕ) (outcome : Outcome) → AnswersMerged desk batch (Carry from to) outcome →
    IsTook outcome → ⊥
carry_took desk batch from to outcome merged took = subst IsTook merged took

pub taken_among : (some all : List Answer) → ((a : Answer) → Contains some a → Contains all a) → (item : Item) → IsTaken some item →
    IsTaken all item
taken_among some all within item taken = record {
  answer = taken.answer;
  among = within taken.answer taken.among;
  took = taken.took;
  items = taken.items;
  reads = taken.reads;
  there = taken.there;
}

pub taken_none : AreTaken [] []
taken_none item = (λ h. absurd (none_in item h), λ taken. absurd (none_in taken.answer taken.among))

-- two lists of answers, and what was taken of each
module _ (answers more : List Answer) where
  in_left : (item : Item) → IsTaken answers item → IsTaken (answers ++ more) item
  in_left = taken_among answers (answers ++ more) (Contains-append_left answers more)

  in_right : (item : Item) → IsTaken more item → IsTaken (answers ++ more) item
  in_right = taken_among more (answers ++ more) (Contains-append_right answers more)

  pub taken_both : (set others : List Item) → AreTaken answers set → AreTaken more others → AreTaken (answers ++ more) (set ++ others)
  taken_both set others are are_more item = (
    λ h. elim (Contains-append_cases set others item h) [
      | inl left ↦ in_left item ((are item).0 left)
      | inr right ↦ in_right item ((are_more item).0 right)
    ],
    λ taken. elim (Contains-append_cases answers more taken.answer taken.among) [
      | inl left ↦ Contains-append_left set others item
          ((are item).1 (record {
            answer = taken.answer;
            among = left;
            took = taken.took;
            items = taken.items;
            reads = taken.reads;
            there = taken.there;
          }))
      | inr right ↦ Contains-append_right set others item
          ((are_more item).1 (record {
            answer = taken.answer;
            among = right;
            took = taken.took;
            items = taken.items;
            reads = taken.reads;
            there = taken.there;
          }))
    ],
  )

-- what was taken of one answer
module _ (desk : ℕ) (batch : List Item) (a : Answer) where
  is_first : (b : Answer) → Contains (a ∷ []) b → a ≡ b
  is_first b among = elim (cons_cases a [] b among) [ inl same ↦ same | inr none ↦ absurd (none_in b none) ]

  pub taken_text : AnswersMerged desk batch a.0.work a.1 → IsText a.0.work → AreTaken (a ∷ []) batch
  taken_text merged text item = (
    λ h. let found = text_taken desk batch a.0.work a.1 merged text item h in record {
      answer = a;
      among = cons_first a [];
      took = found.0;
      items = found.1.0;
      reads = found.1.1;
      there = found.1.2;
    },
    λ taken.
        batch_has desk batch a.0.work a.1 merged taken.items
        (subst (λ (b : Answer). ReadsWork b.0.work taken.items) (sym (is_first taken.answer taken.among)) taken.reads) item taken.there,
  )

  pub taken_other : (IsTook a.1 → ⊥) → AreTaken (a ∷ []) []
  taken_other not item = (
    λ h. absurd (none_in item h),
    λ taken. absurd (not (subst (λ (b : Answer). IsTook b.1) (sym (is_first taken.answer taken.among)) taken.took)),
  )

-- one more batch after those of a job and of the others
then_more : (P Q : List (List Item) → Type 0) (batch : List Item) → ((batches : List (List Item)) → P batches → Q (batches ++ batch ∷ [])) →
    (work : Work) (batches : List (List Item)) → TextThen work P batches
    → TextThen work Q (batches ++ batch ∷ [])
then_more P Q batch more (Text at bytes) [] has = absurd has
then_more P Q batch more (Text at bytes) (b ∷ batches) has = (has.0, more batches has.1)
then_more P Q batch more (Carry from to) batches has = more batches has
then_more P Q batch more (Look at window) batches has = more batches has

then_same : (P Q : List (List Item) → Type 0) → ((batches : List (List Item)) → P batches → Q batches) → (work : Work)
    (batches : List (List Item)) → TextThen work P batches → TextThen work Q batches
then_same P Q more (Text at bytes) [] has = absurd has
then_same P Q more (Text at bytes) (b ∷ batches) has = (has.0, more batches has.1)
then_same P Q more (Carry from to) batches has = more batches has
then_same P Q more (Look at window) batches has = more batches has

-- the last job is a text
last_text : (desk : ℕ) (batch : List Item) (outcome : Outcome) (work : Work) → IsText work → AnswersMerged desk batch work outcome →
    (batches : List (List Item)) → batches ≡ []
    → TextThen work (λ (l : List (List Item)). l ≡ []) (batches ++ batch ∷ [])
last_text desk batch outcome (Text at bytes) text merged [] none = (merged.0, refl)
last_text desk batch outcome (Text at bytes) text merged (b ∷ batches) none = absurd (cc)
last_text desk batch outcome (Carry from to) text merged batches none = absurd text
last_text desk batch outcome (Look at window) text merged batches none = absurd text

-- the last job takes no text
last_other : (desk : ℕ) (batch : List Item) (outcome : Outcome) (work : Work) → (IsTook outcome → ⊥) →
    AnswersMerged desk batch work outcome →
    (batches : List (List Item)) → batches ≡ []
    → TextThen work (λ (l : List (List Item)). l ≡ []) batches
last_other desk batch outcome (Text at bytes) not merged batches none = absurd (not (subst IsTook (sym merged.1) tt))
last_other desk batch outcome (Carry from to) not merged batches none = none
last_other desk batch outcome (Look at window) not merged batches none = none

module _ (desk : ℕ) (batch : List Item) (a : Answer) (merged : AnswersMerged desk batch a.0.work a.1) where
  texts_text : IsText a.0.work → (answers : List Answer) (batches : List (List Item)) → AreTexts answers batches →
      AreTexts (answers ++ a ∷ []) (batches ++ batch ∷ [])
  texts_text text [] batches are = last_text desk batch a.1 a.0.work text merged batches are
  texts_text text (b ∷ answers) batches are =
      then_more (AreTexts answers) (AreTexts (answers ++ a ∷ [])) batch (texts_text text answers) b.0.work batches are

  texts_other : (IsTook a.1 → ⊥) → (answers : List Answer) (batches : List (List Item)) → AreTexts answers batches →
      AreTexts (answers ++ a ∷ []) batches
  texts_other not [] batches are = last_other desk batch a.1 a.0.work not merged batches are
  texts_other not (b ∷ answers) batches are =
      then_same (AreTexts answers) (AreTexts (answers ++ a ∷ [])) (texts_other not answers) b.0.work batches are

pub grew_texts_none : (desk : ℕ) (texts : Shown) → GrewTexts desk texts texts []
grew_texts_none desk texts = record {
  batches = [];
  step = λ steps start is. subst (λ (l : List (List Item)). IsDeskOf l start texts) (sym (append-nil steps)) is;
  each = All-nil (IsMerged desk);
  in_order = refl;
  taken = taken_none;
}

module _ (desk : ℕ) (old mid new : Shown) (answers : List Answer) (a : Answer) (batch : List Item) (grew : GrewTexts desk old mid answers)
    (merged : AnswersMerged desk batch a.0.work a.1) where
  each : All (IsMerged desk) (answers ++ a ∷ [])
  each = All-push (IsMerged desk) answers a grew.each (batch, merged)

  with_text : IsText a.0.work → ((steps : List (List Item)) (start : ℕ) → IsDeskOf steps start mid → IsDeskOf
      (steps ++ batch ∷ []) start new)
      → GrewTexts desk old new (answers ++ a ∷ [])
  with_text text took = record {
    batches = grew.batches ++ batch ∷ [];
    step = λ steps start is.
        subst (λ (l : List (List Item)). IsDeskOf l start new) (append_assoc steps grew.batches (batch ∷ []))
        (took (steps ++ grew.batches) start (grew.step steps start is));
    each = each;
    in_order = texts_text desk batch a merged text answers grew.batches grew.in_order;
    taken = subst (AreTaken (answers ++ a ∷ [])) (sym (heard_push grew.batches batch))
        (taken_both answers (a ∷ []) (heard grew.batches) batch grew.taken (taken_text desk batch a merged text));
  }

  with_other : (IsTook a.1 → ⊥) → new ≡ mid → GrewTexts desk old new (answers ++ a ∷ [])
  with_other not same = record {
    batches = grew.batches;
    step = λ steps start is. subst (λ (d : Shown). IsDeskOf (steps ++ grew.batches) start d) (sym same) (grew.step steps start is);
    each = each;
    in_order = texts_other desk batch a merged not answers grew.batches grew.in_order;
    taken = subst (AreTaken (answers ++ a ∷ [])) (append-nil (heard grew.batches))
        (taken_both answers (a ∷ []) (heard grew.batches) [] grew.taken (taken_other desk batch a not));
  }

  by_work : (work : Work) → work ≡ a.0.work → AnswersMerged desk batch work a.1 → TookText work mid new batch
      → GrewTexts desk old new (answers ++ a ∷ [])
  by_work (Text at bytes) same is took = with_text (subst IsText same tt) took
  by_work (Carry from to) same is took = with_other (carry_took desk batch from to a.1 is) took
  by_work (Look at window) same is took = absurd is

  pub grew_texts_more : TookText a.0.work mid new batch → GrewTexts desk old new (answers ++ a ∷ [])
  grew_texts_more took = by_work a.0.work refl merged took

-- a desk of texts that began with nothing heard
pub has_merged : (desk : ℕ) (old new : Shown) (answers : List Answer) → IsDeskOf [] 0 old → GrewTexts desk old new answers →
    HasMerged desk answers new
has_merged desk old new answers empty grew =
    record { batches = grew.batches; is = grew.step [] 0 empty; each = grew.each; in_order = grew.in_order; taken = grew.taken }
