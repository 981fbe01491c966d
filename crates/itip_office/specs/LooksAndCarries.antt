-- What a look shows and what a carry brings, of what a pass of a desk had seen (our own rule).
use Rattle.std.specs.Prelude.{◌≡◌, ◌≤◌, ◌⊎◌, ℕ, List}
use Rattle.std.specs.List.{Contains}
use Rattle.itip_items.specs.declared.item.Item.{Item}
use Rattle.itip_view.specs.ListText.{IsListText}
use Rattle.itip_view.specs.Rows.{AreTooMany}
use Rattle.itip_view.specs.declared.window.Window.{Window}
use Rattle.itip_desk.specs.HeardSteps.{heard}
use Rattle.itip_desk.specs.declared.refusal.Refusal.TheVariants.{TooManyRows}
use Rattle.itip_running.specs.Deltas.{IsDeltaAfter}
use Rattle.itip_office.specs.declared.job.Work.{Work}
use Rattle.itip_office.specs.declared.job.Work.TheVariants.{Text, Carry, Look}
use Rattle.itip_office.specs.declared.outcome.Outcome.{Outcome}
use Rattle.itip_office.specs.declared.outcome.Outcome.TheVariants.{Took, Carried, Looked, Refused}
use Rattle.itip_office.specs.Answers.{Answer, AnswersAlone}

-- a desk, and batches that a pass of it had seen
abbrev pub Source : Type 0
Source = ℕ × List (List Item)

-- the batches are what one of these sources has of the desk
abbrev pub IsOneOf : List Source → ℕ → List (List Item) → Type 0
IsOneOf sources desk seen = Contains sources (desk, seen)

-- The outcome of a look is the list of all heard in these batches, or the refusal that they have too many rows in the window. A list has
-- at most 100,000 rows, so a look is refused exactly if there are more.
abbrev pub IsListed : List (List Item) → Window → Outcome → Type 0
IsListed steps window (Took desk items) = ⊥
IsListed steps window (Carried from to items) = ⊥
IsListed steps window (Looked text) = IsListText (heard steps) window text.items
IsListed steps window (Refused refusal) = (refusal ≡ TooManyRows) × AreTooMany (heard steps) window

-- The outcome is that of a look at batches that were seen of the desk.
pub record Shows (IsSeen : ℕ → List (List Item) → Type 0) (desk : ℕ) (window : Window) (outcome : Outcome) : Type 0 where
  pub seen : List (List Item)
  pub is_seen : IsSeen desk seen
  pub listed : IsListed seen window outcome

-- A look at a desk that is there shows batches that were seen of it.
abbrev pub LooksAt : ℕ → (ℕ → List (List Item) → Type 0) → Work → Outcome → Type 0
LooksAt desks IsSeen (Text desk bytes) outcome = Unit {0}
LooksAt desks IsSeen (Carry from to) outcome = Unit {0}
LooksAt desks IsSeen (Look desk window) outcome = (desks ≤ desk) ⊎ Shows IsSeen desk window outcome

-- A worker answers the job itself, and a look shows batches that were seen.
pub record IsAnswered (desks : ℕ) (IsSeen : ℕ → List (List Item) → Type 0) (a : Answer) : Type 0 where
  pub alone : AnswersAlone desks a.0.work a.1
  pub looks : LooksAt desks IsSeen a.0.work a.1

-- The batch is all that is kept of batches that were seen of the desk.
pub record Brings (IsSeen : ℕ → List (List Item) → Type 0) (desk : ℕ) (batch : List Item) : Type 0 where
  pub seen : List (List Item)
  pub is_seen : IsSeen desk seen
  pub brings : IsDeltaAfter seen 0 batch

-- The batch of a carry is all that is kept of batches that were seen of the desk that it comes from.
abbrev pub IsBrought : (ℕ → List (List Item) → Type 0) → Work → List Item → Type 0
IsBrought IsSeen (Text desk bytes) batch = Unit {0}
IsBrought IsSeen (Carry from to) batch = ∥ Brings IsSeen from batch ∥₁
IsBrought IsSeen (Look desk window) batch = Unit {0}
