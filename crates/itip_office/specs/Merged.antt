-- What a keeper has merged (our own form): into its desk of texts, and into its running desk if it has one.
use Rattle.std.specs.Prelude.{◌≡◌, ℕ, List, [], ◌∷◌, ◌++◌, map, Option, Some, None, All}
use Rattle.std.specs.List.{AllZip}
use Rattle.itip_items.specs.declared.item.Item.{Item}
use Rattle.itip_desk.specs.Desk.{Shown, IsDeskOf}
use Rattle.itip_desk.specs.HeardSteps.{heard}
use Rattle.itip_running.specs.ContractViews.{publishes, published, pending, calls, fresh, keeper_pair}
use Rattle.itip_running.specs.declared.keeper.Keeper.{Keeper}
use Rattle.itip_office.specs.declared.job.Work.{Work}
use Rattle.itip_office.specs.declared.job.Work.TheVariants.{Text, Carry, Look}
use Rattle.itip_office.specs.Texts.{IsBatchOf, IsText}
use Rattle.itip_office.specs.Answers.{Answer, AnswersMerged}
use Rattle.itip_office.specs.Taken.{AreTaken}
use Rattle.itip_office.specs.LooksAndCarries.{IsBrought}

-- These batches were merged for these jobs, one for each, in order.
abbrev pub AreMerged : ℕ → List Answer → List (List Item) → Type 0
AreMerged desk [] [] = Unit {0}
AreMerged desk [] (batch ∷ batches) = ⊥
AreMerged desk (answer ∷ answers) [] = ⊥
AreMerged desk (answer ∷ answers) (batch ∷ batches) = AnswersMerged desk batch answer.0.work answer.1 × AreMerged desk answers batches

-- no group of a refused call of `publish` is still to be shown, and nothing was submitted since the last call
pub record HasShownAll (keeper : Keeper) : Type 0 where
  pub shown : calls keeper ≡ publishes keeper
  pub none_fresh : fresh keeper ≡ []

-- the running desk of a keeper, if it has one, has nothing pending
abbrev pub IsIdle : Option Keeper → Type 0
IsIdle None = Unit {0}
IsIdle (Some keeper) = pending keeper ≡ []

-- A keeper published one more batch, and has nothing pending. If it had shown all before, the batch is a group by itself.
pub record ShowsBatch (old new : Keeper) (batch : List Item) : Type 0 where
  pub whole : published new ≡ published old ++ batch ∷ []
  pub none_pending : pending new ≡ []
  pub group : HasShownAll old → publishes new ≡ publishes old ++ (batch ∷ []) ∷ []
  pub all : HasShownAll new
  pub pair : keeper_pair new ≡ keeper_pair old

-- The running desk, if there is one, shows one more batch. If there is none, the job is a text.
abbrev pub ShowsOne : Work → Option Keeper → Option Keeper → List Item → Type 0
ShowsOne work None None batch = IsText work
ShowsOne work None (Some new) batch = ⊥
ShowsOne work (Some old) None batch = ⊥
ShowsOne work (Some old) (Some new) batch = ShowsBatch old new batch

-- A keeper published one batch for each of these jobs, in order; that of a carry is made of what was seen. If it had shown all before, each
-- is a group by itself.
pub record GrewBy (desk : ℕ) (IsSeen : ℕ → List (List Item) → Type 0) (old new : Keeper) (answers : List Answer) : Type 0 where
  pub batches : List (List Item)
  pub merged : AreMerged desk answers batches
  pub brought : AllZip (λ (a : Answer) (b : List Item). IsBrought IsSeen a.0.work b) answers batches
  pub whole : published new ≡ published old ++ batches
  pub groups : HasShownAll old → publishes new ≡ publishes old ++ map (λ batch. batch ∷ []) batches
  pub all : HasShownAll old → HasShownAll new
  pub pair : keeper_pair new ≡ keeper_pair old

-- The running desk, if there is one, shows one more batch for each of these jobs, in order. If there is none, these are texts.
abbrev pub GrewShown : ℕ → (ℕ → List (List Item) → Type 0) → Option Keeper → Option Keeper → List Answer → Type 0
GrewShown desk IsSeen None None answers = All (λ (a : Answer). IsText a.0.work) answers
GrewShown desk IsSeen None (Some new) answers = ⊥
GrewShown desk IsSeen (Some old) None answers = ⊥
GrewShown desk IsSeen (Some old) (Some new) answers = GrewBy desk IsSeen old new answers

-- Some batch was merged for the job.
abbrev pub IsMerged : ℕ → Answer → Type 0
IsMerged desk answer = (batch : List Item) × AnswersMerged desk batch answer.0.work answer.1

-- The desk of texts took the batch of a text, or stayed as it was at a carry. Nothing is said of a look, which has no batch.
abbrev pub TookText : Work → Shown → Shown → List Item → Type 0
TookText (Text at bytes) old new batch =
    (steps : List (List Item)) (start : ℕ) → IsDeskOf steps start old → IsDeskOf (steps ++ batch ∷ []) start new
TookText (Carry from to) old new batch = new ≡ old
TookText (Look at window) old new batch = Unit {0}

-- One job was merged: the desk of texts took its batch if the job is a text, and the batch was published if there is a running desk. The
-- batch of a carry is made of what was seen.
pub record MergedOne (desk : ℕ) (IsSeen : ℕ → List (List Item) → Type 0) (old new : Shown) (was now : Option Keeper) (answer : Answer)
    : Type 0 where
  pub batch : List Item
  pub answers : AnswersMerged desk batch answer.0.work answer.1
  pub brought : IsBrought IsSeen answer.0.work batch
  pub texts : TookText answer.0.work old new batch
  pub shown : ShowsOne answer.0.work was now batch

-- If the job is a text, the first batch is its own, and `Rest` holds of the others; any other job has no batch.
abbrev pub TextThen : Work → (List (List Item) → Type 0) → List (List Item) → Type 0
TextThen (Text at bytes) Rest [] = ⊥
TextThen (Text at bytes) Rest (batch ∷ batches) = IsBatchOf bytes batch × Rest batches
TextThen (Carry from to) Rest batches = Rest batches
TextThen (Look at window) Rest batches = Rest batches

-- These are the batches of the texts among these jobs, in order.
abbrev pub AreTexts : List Answer → List (List Item) → Type 0
AreTexts [] batches = batches ≡ []
AreTexts (answer ∷ answers) batches = TextThen answer.0.work (AreTexts answers) batches

-- The desk of texts took the texts among these jobs, one after another, and all these jobs were merged.
pub record GrewTexts (desk : ℕ) (old new : Shown) (answers : List Answer) : Type 0 where
  pub batches : List (List Item)
  pub step : (steps : List (List Item)) (start : ℕ) → IsDeskOf steps start old → IsDeskOf (steps ++ batches) start new
  pub each : All (IsMerged desk) answers
  pub in_order : AreTexts answers batches
  pub taken : AreTaken answers (heard batches)

-- The desk of texts, from tick 0, is that of the texts among these jobs, one after another, and all these jobs were merged.
pub record HasMerged (desk : ℕ) (answers : List Answer) (texts : Shown) : Type 0 where
  pub batches : List (List Item)
  pub is : IsDeskOf batches 0 texts
  pub each : All (IsMerged desk) answers
  pub in_order : AreTexts answers batches
  pub taken : AreTaken answers (heard batches)
