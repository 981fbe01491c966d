-- Which running desk a keeper and passes belong to (our own form).
use Rattle.std.specs.Prelude.{◌≡◌, ◌+◌, ℕ, zero, suc, List, [], ◌∷◌, Option, Some, None, All}
use Rattle.logbook.specs.Pages.{Book}
use Rattle.itip_desk.specs.Desk.{Shown, IsDeskOf}
use Rattle.itip_running.specs.ContractViews.{publishes, keeper_pair, pass_pair}
use Rattle.itip_running.specs.declared.keeper.Keeper.{Keeper}
use Rattle.itip_running.specs.declared.pass.Pass.{Pass}
use Rattle.itip_items.specs.declared.item.Item.{Item}
use Rattle.itip_office.specs.Answers.{Answer}
use Rattle.itip_office.specs.Merged.{IsIdle, HasMerged}
use Rattle.itip_office.specs.Published.{ArePublished, shown_of}

-- the pair of a running desk, if there is one
abbrev pub pair_of : Option Keeper → Option Book
pair_of None = None
pair_of (Some keeper) = keeper_pair keeper

-- the pair of the running desk at a place
abbrev pub pair_at : List (Option Keeper) → ℕ → Option Book
pair_at [] desk = None
pair_at (shown ∷ rest) zero = pair_of shown
pair_at (shown ∷ rest) (suc desk) = pair_at rest desk

-- the running desk, if there is one, is of this pair
abbrev pub IsOfPair : Option Book → Option Keeper → Type 0
IsOfPair pair None = Unit {0}
IsOfPair pair (Some keeper) = keeper_pair keeper ≡ pair

-- the running desk, if there is one, has published nothing
abbrev pub IsUnpublished : Option Keeper → Type 0
IsUnpublished None = Unit {0}
IsUnpublished (Some keeper) = publishes keeper ≡ []

-- A desk that has just been started: it has heard nothing, published nothing, and has nothing pending.
pub record IsFresh (pair : Option Book) (texts : Shown) (shown : Option Keeper) : Type 0 where
  pub empty : IsDeskOf [] 0 texts
  pub idle : IsIdle shown
  pub unpublished : IsUnpublished shown
  pub of_pair : IsOfPair pair shown

-- The same, and its passes are of this pair.
pub record IsStarted (pair : Option Book) (texts : Shown) (shown : Option Keeper) (passes : List Pass) : Type 0 where
  pub fresh : IsFresh pair texts shown
  pub passes_are : All (λ (p : Pass). pass_pair p ≡ pair) passes

-- These are numbered from `n` on, in order.
abbrev pub AreNumbered : {X : Type 0} → (X → ℕ) → ℕ → List X → Type 0
AreNumbered number n [] = Unit {0}
AreNumbered number n (x ∷ xs) = (number x ≡ n) × AreNumbered number (n + 1) xs

-- A keeper of this pair has a desk of the texts that it answers, and published the batches of all that it answers if it has a running
-- desk.
pub record HasKept (pair : Option Book) (IsSeen : ℕ → List (List Item) → Type 0) (desk : ℕ) (answers : List Answer) (texts : Shown)
    (shown : Option Keeper) : Type 0 where
  pub merged : HasMerged desk answers texts
  pub published : ArePublished desk IsSeen answers (shown_of shown)
  pub of_pair : IsOfPair pair shown
