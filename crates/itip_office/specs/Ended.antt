-- What an office ends with (our own rule): an outcome for each job, and desks that keep the same.
use Rattle.std.specs.Prelude.{◌≡◌, ℕ, List, length, map, All, IsPermutation}
use Rattle.std.specs.List.{AllZip, flat_map}
use Rattle.std.specs.List.Sorted.{IsStrictlyIncreasing}
use Rattle.itip_items.specs.declared.item.Item.{Item}
use Rattle.itip_state.specs.Kept.{AreKept}
use Rattle.itip_desk.specs.Desk.{Shown, IsDeskOf}
use Rattle.itip_desk.specs.HeardSteps.{heard}
use Rattle.itip_office.specs.declared.job.Job.{Job}
use Rattle.itip_office.specs.declared.outcome.Outcome.{Outcome}
use Rattle.itip_office.specs.Answers.{Answer, IsOutcome}
use Rattle.itip_office.specs.Taken.{AreTaken}
use Rattle.itip_office.specs.Published.{HasShown}

-- everything heard by some desks, each of which heard a list of batches
abbrev pub all_heard : List (List (List Item)) → List Item
all_heard histories = flat_map heard histories

-- Each outcome is one of its job, and the set has the items of the texts that were taken, and no others.
pub record Tells (desks : ℕ) (answers : List Answer) (set : List Item) : Type 0 where
  pub each : All (λ (a : Answer). IsOutcome desks a.0.work a.1) answers
  pub taken : AreTaken answers set

-- These are the answers of all threads, and the desks of texts, which together heard what was taken.
pub record AreGathered (desks : ℕ) (answers : List Answer) (texts : List Shown) : Type 0 where
  pub histories : List (List (List Item))
  pub are : AllZip (λ (batches : List (List Item)) (desk : Shown). IsDeskOf batches 0 desk) histories texts
  pub tells : Tells desks answers (all_heard histories)

-- The answers are those of the jobs, in the order of their numbers, no two of which are the same, and the replies have their outcomes.
pub record AreReplies (jobs : List Job) (answers : List Answer) (replies : List (ℕ × Outcome)) : Type 0 where
  pub jobs_are : IsPermutation jobs (map (λ (a : Answer). a.0) answers)
  pub ascend : IsStrictlyIncreasing (map (λ (a : Answer). a.0.number) answers)
  pub replies_are : replies ≡ map (λ (a : Answer). (a.0.number, a.1)) answers

-- The same, given the answers in any order and the jobs in the order of their numbers.
pub record AreRepliesFrom (given : List Answer) (jobs : List Job) (replies : List (ℕ × Outcome)) : Type 0 where
  pub answers : List Answer
  pub given_are : IsPermutation given answers
  pub jobs_are : map (λ (a : Answer). a.0) answers ≡ jobs
  pub ascend : IsStrictlyIncreasing (map (λ (a : Answer). a.0.number) answers)
  pub replies_are : replies ≡ map (λ (a : Answer). (a.0.number, a.1)) answers

-- a desk that took some batches, one after another, from tick 0, so that its deltas are of these
pub record IsSomeDesk (desk : Shown) : Type 0 where
  pub batches : List (List Item)
  pub is : IsDeskOf batches 0 desk

-- There is one reply for each job number, in order, with the outcome of its job. All desks keep what is kept of one set: the items of the
-- texts that were taken, and no others, as does a desk that takes these texts one after another on one thread. What looks and carries had
-- seen is a prefix of what a running desk published.
pub record HasEnded (desks : ℕ) (jobs : List Job) (replies : List (ℕ × Outcome)) (ended : List Shown) : Type 0 where
  pub answers : List Answer
  pub are_replies : AreReplies jobs answers replies
  pub set : List Item
  pub tells : Tells desks answers set
  pub shown : HasShown desks answers
  pub count : length ended ≡ desks
  pub each : All IsSomeDesk ended
  pub kept : All (λ (desk : Shown). AreKept desk.kept set) ended
