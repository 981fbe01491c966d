-- What the running desks of an office published, and what looks and carries have seen of it (our own rule).
use Rattle.std.specs.Prelude.{◌≡◌, ℕ, List, ◌++◌, Option, Some, None, All, IsPermutation, slice_get}
use Rattle.std.specs.List.{AllZip, flat_map}
use mathlib.Core.List.{IsPrefix}
use Rattle.itip_items.specs.declared.item.Item.{Item}
use Rattle.itip_running.specs.ContractViews.{published}
use Rattle.itip_running.specs.declared.keeper.Keeper.{Keeper}
use Rattle.itip_office.specs.Texts.{desk_of, IsText}
use Rattle.itip_office.specs.Answers.{Answer, AnswersAlone}
use Rattle.itip_office.specs.LooksAndCarries.{LooksAt, IsBrought}
use Rattle.itip_office.specs.Merged.{AreMerged, IsMerged}

-- What one keeper did: the jobs that it merged, in order, and the batches that it published, in order, if it has a running desk.
pub record Publication : Type 0 where
  pub desk : ℕ
  pub answers : List Answer
  pub batches : Option (List (List Item))

-- the batches that a running desk published, if there is one
abbrev pub shown_of : Option Keeper → Option (List (List Item))
shown_of None = None
shown_of (Some keeper) = Some (published keeper)

-- what a keeper did, by its desk, its answers and its running desk at the end
abbrev pub publication_of : ℕ → List Answer → Option Keeper → Publication
publication_of desk answers shown = record { desk = desk; answers = answers; batches = shown_of shown }

-- The batches are a prefix, perhaps empty, of those that the running desk with this number published. The publications are in the order
-- of desks.
pub record IsBeginning (publications : List Publication) (desk : ℕ) (seen : List (List Item)) : Type 0 where
  pub publication : Publication
  pub at : slice_get publications desk ≡ Some publication
  pub of_desk : publication.desk ≡ desk
  pub batches : List (List Item)
  pub are : publication.batches ≡ Some batches
  pub begins : IsPrefix seen batches

-- These are the batches of the jobs, one for each, in order, and those of carries are made of what was seen. If there is no running desk,
-- the jobs are texts, and a batch was merged for each.
abbrev pub ArePublished : ℕ → (ℕ → List (List Item) → Type 0) → List Answer → Option (List (List Item)) → Type 0
ArePublished desk IsSeen answers None = All (λ (a : Answer). IsText a.0.work × IsMerged desk a) answers
ArePublished desk IsSeen answers (Some batches) =
    AreMerged desk answers batches × AllZip (λ (a : Answer) (b : List Item). IsBrought IsSeen a.0.work b) answers batches

-- Each look at a desk shows a prefix of what the desk published, and the batch of each carry that was merged is made of one.
pub record AreShown (desks : ℕ) (alone : List Answer) (publications : List Publication) : Type 0 where
  pub looks : All (λ (a : Answer). LooksAt desks (IsBeginning publications) a.0.work a.1) alone
  pub each : All (λ (p : Publication). ArePublished p.desk (IsBeginning publications) p.answers p.batches) publications

-- The keeper merged only jobs for its own desk, and published their batches if it has a running desk.
pub record IsPublication (publications : List Publication) (p : Publication) : Type 0 where
  pub for_desk : All (λ (a : Answer). desk_of a.0.work ≡ p.desk) p.answers
  pub batches : ArePublished p.desk (IsBeginning publications) p.answers p.batches

-- the jobs that a keeper merged
abbrev pub answers_of : Publication → List Answer
answers_of p = p.answers

-- Each job was answered alone or merged by one keeper, once. Each look shows a prefix of what its running desk published. What a running
-- desk published are the batches of the jobs that were merged there, one for each, and the batch of each carry is all that is kept of a
-- prefix of what was published by the running desk that it comes from.
pub record HasShown (desks : ℕ) (answers : List Answer) : Type 0 where
  pub alone : List Answer
  pub publications : List Publication
  pub answers_are : IsPermutation (alone ++ flat_map answers_of publications) answers
  pub alone_are : All (λ (a : Answer). AnswersAlone desks a.0.work a.1) alone
  pub looks : All (λ (a : Answer). LooksAt desks (IsBeginning publications) a.0.work a.1) alone
  pub each : All (IsPublication publications) publications
