-- What keepers answered, and what follows for all answers.
use Rattle.std.proofs.Common.{◌≡◌, ℕ, List, [], ◌∷◌, ◌++◌, All, inl, inr, sym, ap, subst, ◌∙◌, append-nil}
use Rattle.std.proofs.lemmas.List.Concat.{flat_map-append}
use Rattle.std.proofs.lemmas.List.Elements.{All-nil, All-cons, All-head, All-tail, All-append, All-weaker, All-contains}
use Rattle.itip_items.specs.declared.item.Item.{Item}
use Rattle.itip_state.proofs.Members.{none_in}
use Rattle.itip_desk.specs.Desk.{Shown, IsDeskOf}
use Rattle.itip_desk.specs.HeardSteps.{heard}
use Rattle.itip_desk.specs.declared.refusal.Refusal.TheVariants.{NoDesk}
use Rattle.itip_office.specs.declared.job.Work.{Work}
use Rattle.itip_office.specs.declared.job.Work.TheVariants.{Text, Carry, Look}
use Rattle.itip_office.specs.declared.outcome.Outcome.{Outcome}
use Rattle.itip_office.specs.declared.outcome.Outcome.TheVariants.{Took, Carried, Looked, Refused}
use Rattle.itip_office.specs.Texts.{desk_of, AreThere}
use Rattle.itip_office.specs.Answers.{Answer, AnswersAlone, AnswersMerged, IsOutcome, IsTook}
use Rattle.itip_office.specs.Taken.{AreTaken}
use Rattle.itip_office.specs.Merged.{IsMerged, HasMerged}
use Rattle.itip_office.specs.Ended.{Tells, AreGathered, all_heard}
use Rattle.itip_office.proofs.Sharing.{History, zip_push}
use Rattle.itip_office.proofs.Taking.{taken_both}

-- a job that is answered alone takes no text
alone_took : (desks : ℕ) (work : Work) (outcome : Outcome) → AnswersAlone desks work outcome → IsTook outcome → ⊥
alone_took desks (Text desk bytes) (Took at items) (inl a) took = let e : Took at items ≡ Refused (NoDesk desk) = a.1 in cc
alone_took desks (Text desk bytes) (Took at items) (inr a) took = let e = (a.1).2 in cc
alone_took desks (Carry from to) (Took at items) (inl a) took = let e : Took at items ≡ Refused (NoDesk from) = a.1 in cc
alone_took desks (Carry from to) (Took at items) (inr a) took = let e : Took at items ≡ Refused (NoDesk to) = a.2 in cc
alone_took desks (Look desk window) (Took at items) (inl a) took = let e : Took at items ≡ Refused (NoDesk desk) = a.1 in cc
alone_took desks (Look desk window) (Took at items) (inr a) took = absurd a.1
alone_took desks work (Carried from to items) a took = took
alone_took desks work (Looked text) a took = took
alone_took desks work (Refused refusal) a took = took

pub tells_none : (desks : ℕ) (alone : List Answer) → All (λ (a : Answer). AnswersAlone desks a.0.work a.1) alone → Tells desks alone []
tells_none desks alone all = record {
  each = All-weaker (λ (a : Answer). AnswersAlone desks a.0.work a.1) (λ (a : Answer). IsOutcome desks a.0.work a.1) (λ a h. inl h) alone
      all;
  taken = λ item. (
    λ h. absurd (none_in item h),
    λ taken. absurd (alone_took desks taken.answer.0.work taken.answer.1
        (All-contains (λ (a : Answer). AnswersAlone desks a.0.work a.1) alone taken.answer all taken.among) taken.took),
  );
}

-- a job is for a desk, and the desks that it names are there
abbrev pub IsFor : ℕ → ℕ → Answer → Type 0
IsFor desks desk a = (desk_of a.0.work ≡ desk) × AreThere desks a.0.work

merged_one : (desks desk : ℕ) (a : Answer) → IsFor desks desk a → IsMerged desk a → IsOutcome desks a.0.work a.1
merged_one desks desk a is_for merged =
    inr (is_for.1, (merged.0, subst (λ (n : ℕ). AnswersMerged n merged.0 a.0.work a.1) (sym is_for.0) merged.1))

merged_each : (desks desk : ℕ) (answers : List Answer) → All (IsFor desks desk) answers → All (IsMerged desk) answers →
    All (λ (a : Answer). IsOutcome desks a.0.work a.1) answers
merged_each desks desk [] are merged = All-nil (λ (a : Answer). IsOutcome desks a.0.work a.1)
merged_each desks desk (a ∷ answers) are merged =
    All-cons (λ (x : Answer). IsOutcome desks x.0.work x.1) a answers
    (merged_one desks desk a (All-head (IsFor desks desk) a answers are) (All-head (IsMerged desk) a answers merged))
    (merged_each desks desk answers (All-tail (IsFor desks desk) a answers are) (All-tail (IsMerged desk) a answers merged))

heard_more : (histories : List History) (batches : History) →
    all_heard (histories ++ batches ∷ []) ≡ all_heard histories ++ heard batches
heard_more histories batches = flat_map-append heard histories (batches ∷ []) ∙
    ap (λ (l : List Item). all_heard histories ++ l) (append-nil (heard batches))

pub gathered_none : (desks : ℕ) (alone : List Answer) → All (λ (a : Answer). AnswersAlone desks a.0.work a.1) alone →
    AreGathered desks alone []
gathered_none desks alone all = record { histories = []; are = tt; tells = tells_none desks alone all }

-- what one more keeper answered, and its desk of texts
pub gathered_more : (desks desk : ℕ) (answers merged : List Answer) (texts : List Shown) (one : Shown) → AreGathered desks answers texts →
    All (IsFor desks desk) merged → HasMerged desk merged one → AreGathered desks (answers ++ merged) (texts ++ one ∷ [])
gathered_more desks desk answers merged texts one was are has = record {
  histories = was.histories ++ has.batches ∷ [];
  are = zip_push (λ (h : History) (d : Shown). IsDeskOf h 0 d) was.histories texts has.batches one was.are has.is;
  tells = record {
    each = All-append (λ (a : Answer). IsOutcome desks a.0.work a.1) answers merged was.tells.each
        (merged_each desks desk merged are has.each);
    taken = subst (AreTaken (answers ++ merged)) (sym (heard_more was.histories has.batches))
        (taken_both answers merged (all_heard was.histories) (heard has.batches) was.tells.taken has.taken);
  };
}
