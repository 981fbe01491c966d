-- Offices that end with the same jobs end alike.
use Rattle.std.proofs.Common.{◌≡◌, ℕ, suc, ◌<◌, List, [], ◌∷◌, length, map, inl, inr, sym, ap, subst, ◌∙◌, arith}
use Rattle.std.specs.Prelude.{IsPermutation}
use Rattle.std.specs.List.{Contains, AllPairs}
use Rattle.std.proofs.lemmas.List.{get_or-map, length-map}
use Rattle.std.proofs.lemmas.List.Elements.{All-contains}
use Rattle.std.proofs.lemmas.List.Kept.{AllPairs-from_increasing}
use Rattle.std.proofs.lemmas.List.Sorted.{Contains-permutation, IsPermutation-sym}
use Rattle.itip_message.specs.declared.error.MessageRefusal.{MessageRefusal}
use Rattle.itip_message.proofs.OneMessage.{one_message, one_cause, message_apart}
use Rattle.itip_items.specs.declared.item.Item.{Item}
use Rattle.itip_state.specs.Kept.{AreKept, SameItems}
use Rattle.itip_state.proofs.Keeping.{kept_iff}
use Rattle.itip_state.proofs.Members.{none_in, cons_cases, cons_first, cons_later}
use Rattle.itip_desk.specs.Desk.{Shown}
use Rattle.itip_desk.specs.declared.refusal.Refusal.TheVariants.{Message}
use Rattle.itip_desk.proofs.ReadDeltas.{one_order}
use Rattle.itip_office.specs.declared.job.Job.{Job}
use Rattle.itip_office.specs.declared.job.Work.{Work}
use Rattle.itip_office.specs.declared.job.Work.TheVariants.{Text, Carry, Look}
use Rattle.itip_office.specs.declared.outcome.Outcome.{Outcome}
use Rattle.itip_office.specs.declared.outcome.Outcome.TheVariants.{Took, Refused}
use Rattle.itip_office.specs.Texts.{IsBatchOf, IsText}
use Rattle.itip_office.specs.Answers.{Answer, IsOutcome, IsTook}
use Rattle.itip_office.specs.Taken.{ReadsWork, IsTaken}
use Rattle.itip_office.specs.Ended.{HasEnded, AreReplies}

-- the batches of one text are the same
one_batch : (bytes : List ℕ) (batch other : List Item) → IsBatchOf bytes batch → IsBatchOf bytes other → batch ≡ other
one_batch bytes batch other is of =
    let same : is.items ≡ of.items = one_message bytes is.items of.items is.reads of.reads in
    one_order batch other is.is_items.ascend of.is_items.ascend (λ item. (
      λ h. (of.is_items.same item).1 (subst (λ (l : List Item). Contains l item) same ((is.is_items.same item).0 h)),
      λ h. (is.is_items.same item).1 (subst (λ (l : List Item). Contains l item) (sym same) ((of.is_items.same item).0 h)),
    ))

-- one text has one outcome
module _ (desks desk : ℕ) (bytes : List ℕ) (outcome other : Outcome) where
  one_text : IsOutcome desks (Text desk bytes) outcome → IsOutcome desks (Text desk bytes) other → outcome ≡ other
  one_text (inl (inl a)) (inl (inl b)) = a.1 ∙ sym b.1
  one_text (inl (inl a)) (inl (inr b)) = absurd (omega (arith, a.0, b.0))
  one_text (inl (inl a)) (inr b) = absurd (omega (arith, a.0, b.0))
  one_text (inl (inr a)) (inl (inl b)) = absurd (omega (arith, a.0, b.0))
  one_text (inl (inr a)) (inl (inr b)) =
      a.1.2 ∙ (ap (λ (r : MessageRefusal). Refused (Message r)) (one_cause bytes a.1.0 b.1.0 a.1.1 b.1.1) ∙ sym b.1.2)
  one_text (inl (inr a)) (inr b) = absurd (message_apart bytes b.1.1.0.items a.1.0 b.1.1.0.reads a.1.1)
  one_text (inr a) (inl (inl b)) = absurd (omega (arith, a.0, b.0))
  one_text (inr a) (inl (inr b)) = absurd (message_apart bytes a.1.1.0.items b.1.0 a.1.1.0.reads b.1.1)
  one_text (inr a) (inr b) =
      a.1.1.1 ∙ (ap (λ (l : List Item). Took desk (length l)) (one_batch bytes a.1.0 b.1.0 a.1.1.0 b.1.1.0) ∙ sym b.1.1.1)

one_outcome : (desks : ℕ) (work : Work) (outcome other : Outcome) → IsText work → IsOutcome desks work outcome →
    IsOutcome desks work other → outcome ≡ other
one_outcome desks (Text desk bytes) outcome other text is of = one_text desks desk bytes outcome other is of
one_outcome desks (Carry from to) outcome other text is of = absurd text
one_outcome desks (Look desk window) outcome other text is of = absurd text

-- only a text can be read
reads_text : (work : Work) (items : List Item) → ReadsWork work items → IsText work
reads_text (Text desk bytes) items reads = tt
reads_text (Carry from to) items reads = absurd reads
reads_text (Look desk window) items reads = absurd reads

abbrev job_of : Answer → Job
job_of a = a.0

-- the answer of a job that was answered
pub record HasAnswer (answers : List Answer) (job : Job) : Type 0 where
  pub answer : Answer
  pub among : Contains answers answer
  pub of_job : answer.0 ≡ job

answer_of : (answers : List Answer) (job : Job) → Contains (map job_of answers) job → HasAnswer answers job
answer_of [] job h = absurd (none_in job h)
answer_of (a ∷ answers) job h = elim (cons_cases a.0 (map job_of answers) job h) [
  | inl same ↦ record { answer = a; among = cons_first a answers; of_job = same }
  | inr later ↦ (let found = answer_of answers job later in
      record { answer = found.answer; among = cons_later a answers found.answer found.among; of_job = found.of_job })
]

job_among : (answers : List Answer) (a : Answer) → Contains answers a → Contains (map job_of answers) a.0
job_among [] a h = absurd (none_in a h)
job_among (b ∷ answers) a h = elim (cons_cases b answers a h) [
  | inl same ↦ subst (λ (x : Answer). Contains (map job_of (b ∷ answers)) x.0) same (cons_first b.0 (map job_of answers))
  | inr later ↦ cons_later b.0 (map job_of answers) a.0 (job_among answers a later)
]

-- answers with increasing numbers are told apart by their numbers
abbrev number_of : Answer → ℕ
number_of a = a.0.number

later_above : (a : Answer) (answers : List Answer) → AllPairs (λ (x y : ℕ). x < y) (map number_of (a ∷ answers)) → (b : Answer) →
    Contains answers b → number_of a < number_of b
later_above a answers rise b there =
    All-contains (λ (x : Answer). number_of a < number_of x) answers b (λ k d low.
    let count : length (map number_of answers) ≡ length answers = length-map answers number_of in
    let at : 0 < suc k = omega arith in
    let within : suc k < length (map number_of (a ∷ answers)) = omega (arith, low, count) in
    subst (λ (n : ℕ). number_of a < n) (get_or-map number_of answers k d 0 low) (rise 0 (suc k) 0 at within)) there

rise_later : (a : Answer) (answers : List Answer) → AllPairs (λ (x y : ℕ). x < y) (map number_of (a ∷ answers)) →
    AllPairs (λ (x y : ℕ). x < y) (map number_of answers)
rise_later a answers rise i j d less within = rise (suc i) (suc j) d (omega (arith, less)) (omega (arith, within))

one_of_number : (answers : List Answer) → AllPairs (λ (x y : ℕ). x < y) (map number_of answers) → (a b : Answer) → Contains answers a →
    Contains answers b → number_of a ≡ number_of b → a ≡ b
one_of_number [] rise a b in_a in_b same = absurd (none_in a in_a)
one_of_number (c ∷ answers) rise a b in_a in_b same = elim (cons_cases c answers a in_a) [
  | inl is_a ↦ elim (cons_cases c answers b in_b) [
    | inl is_b ↦ sym is_a ∙ is_b
    | inr later ↦ (let less = later_above c answers rise b later in
        let first : number_of c ≡ number_of a = ap number_of is_a in absurd (omega (arith, less, first, same)))
  ]
  | inr later_a ↦ elim (cons_cases c answers b in_b) [
    | inl is_b ↦ (let less = later_above c answers rise a later_a in
        let first : number_of c ≡ number_of b = ap number_of is_b in absurd (omega (arith, less, first, same)))
    | inr later_b ↦ one_of_number answers (rise_later c answers rise) a b later_a later_b same
  ]
]

abbrev reply_of : Answer → ℕ × Outcome
reply_of a = (a.0.number, a.1)

-- the answer that a reply is of
pub record HasReply (answers : List Answer) (reply : ℕ × Outcome) : Type 0 where
  pub answer : Answer
  pub among : Contains answers answer
  pub of_reply : reply_of answer ≡ reply

replied : (answers : List Answer) (reply : ℕ × Outcome) → Contains (map reply_of answers) reply → HasReply answers reply
replied [] reply h = absurd (none_in reply h)
replied (a ∷ answers) reply h = elim (cons_cases (reply_of a) (map reply_of answers) reply h) [
  | inl same ↦ record { answer = a; among = cons_first a answers; of_reply = same }
  | inr later ↦ (let found = replied answers reply later in
      record { answer = found.answer; among = cons_later a answers found.answer found.among; of_reply = found.of_reply })
]

-- a reply under the number of a job is its answer
told : (jobs : List Job) (answers : List Answer) (replies : List (ℕ × Outcome)) → AreReplies jobs answers replies → (job : Job)
    (outcome : Outcome) → Contains jobs job → Contains replies (job.number, outcome)
    → Contains answers (job, outcome)
told jobs answers replies are job outcome in_jobs in_replies =
    let found : HasAnswer answers job = answer_of answers job (Contains-permutation jobs (map job_of answers) job are.jobs_are in_jobs) in
    let reply : HasReply answers (job.number, outcome) =
    replied answers (job.number, outcome) (subst (λ (l : List (ℕ × Outcome)). Contains l (job.number, outcome)) are.replies_are
    in_replies) in
    let rise = AllPairs-from_increasing (map number_of answers) are.ascend in
    let numbers : number_of reply.answer ≡ number_of found.answer =
    ap (λ (p : ℕ × Outcome). p.0) reply.of_reply ∙ sym (ap (λ (j : Job). j.number) found.of_job) in
    let same : reply.answer ≡ found.answer = one_of_number answers rise reply.answer found.answer reply.among found.among numbers in
    let outcomes : found.answer.1 ≡ outcome =
    ap (λ (a : Answer). a.1) (sym same) ∙ ap (λ (p : ℕ × Outcome). p.1) reply.of_reply in
    subst (λ (o : Outcome). Contains answers (job, o)) outcomes
    (subst (λ (j : Job). Contains answers (j, found.answer.1)) found.of_job found.among)

module _ (desks : ℕ) (jobs others : List Job) (replies answered : List (ℕ × Outcome)) (ended apart : List Shown)
    (one : HasEnded desks jobs replies ended) (two : HasEnded desks others answered apart) where
  pub same_texts : (job : Job) (outcome other : Outcome) → IsText job.work → Contains one.answers (job, outcome) →
      Contains two.answers (job, other) → outcome ≡ other
  same_texts job outcome other text is of =
      let P : Answer → Type 0 = λ a. IsOutcome desks a.0.work a.1 in
      one_outcome desks job.work outcome other text (All-contains P one.answers (job, outcome) one.tells.each is)
      (All-contains P two.answers (job, other) two.tells.each of)

  pub same_replies : IsPermutation jobs others → (job : Job) (outcome other : Outcome) → Contains jobs job → IsText job.work →
      Contains replies (job.number, outcome)
      → Contains answered (job.number, other) → outcome ≡ other
  same_replies order job outcome other in_jobs text is of =
      same_texts job outcome other text (told jobs one.answers replies one.are_replies job outcome in_jobs is)
      (told others two.answers answered two.are_replies job other (Contains-permutation jobs others job order in_jobs) of)

  -- what was taken in one office was taken in the other
  taken_too : IsPermutation jobs others → (item : Item) → IsTaken one.answers item → IsTaken two.answers item
  taken_too order item taken =
      let job = taken.answer.0 in
      let in_jobs : Contains jobs job =
      Contains-permutation (map job_of one.answers) jobs job (IsPermutation-sym jobs (map job_of one.answers) one.are_replies.jobs_are)
      (job_among one.answers taken.answer taken.among) in
      let found : HasAnswer two.answers job =
      answer_of two.answers job
      (Contains-permutation others (map job_of two.answers) job two.are_replies.jobs_are
      (Contains-permutation jobs others job order in_jobs)) in
      let there : Contains two.answers (job, found.answer.1) =
      subst (λ (j : Job). Contains two.answers (j, found.answer.1)) found.of_job found.among in
      let same : taken.answer.1 ≡ found.answer.1 =
      same_texts job taken.answer.1 found.answer.1 (reads_text job.work taken.items taken.reads) taken.among there in
      record {
        answer = (job, found.answer.1);
        among = there;
        took = subst IsTook same taken.took;
        items = taken.items;
        reads = taken.reads;
        there = taken.there;
      }

pub same_desks : (desks : ℕ) (jobs others : List Job) (replies answered : List (ℕ × Outcome)) (ended apart : List Shown) →
    IsPermutation jobs others → HasEnded desks jobs replies ended → HasEnded desks others answered apart
    → (desk other : Shown) → Contains ended desk → Contains apart other → SameItems desk.kept other.kept
same_desks desks jobs others replies answered ended apart order one two desk other is of item =
    let there = taken_too desks jobs others replies answered ended apart one two order in
    let back = taken_too desks others jobs answered replies apart ended two one (IsPermutation-sym jobs others order) in
    let sets : SameItems one.set two.set = λ i. (
      λ h. (two.tells.taken i).1 (there i ((one.tells.taken i).0 h)),
      λ h. (one.tells.taken i).1 (back i ((two.tells.taken i).0 h)),
    ) in
    let mine : AreKept desk.kept one.set = All-contains (λ (d : Shown). AreKept d.kept one.set) ended desk one.kept is in
    let theirs : AreKept other.kept two.set = All-contains (λ (d : Shown). AreKept d.kept two.set) apart other two.kept of in (
      λ h. (theirs item).1 ((kept_iff one.set two.set sets item).0 ((mine item).0 h)),
      λ h. (mine item).1 ((kept_iff one.set two.set sets item).1 ((theirs item).0 h)),
    )
