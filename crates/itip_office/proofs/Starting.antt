-- Desks that have just been started, in the order of their numbers.
use Rattle.std.proofs.Common.{◌≡◌, ℕ, suc, ◌+◌, List, [], ◌∷◌, ◌++◌, length, map, All, refl, sym, ap, subst, ◌∙◌, arith}
use Rattle.std.proofs.Common.{Option, Some, None}
use Rattle.std.proofs.lemmas.List.Elements.{All-nil, All-cons, All-head, All-tail, All-same, All-weaker}
use Rattle.logbook.specs.Pages.{Book}
use Rattle.itip_desk.specs.Desk.{Shown, IsDeskOf}
use Rattle.itip_running.specs.ContractViews.{publishes, pending, keeper_pair, publishes_seen, pass_pair}
use Rattle.itip_running.specs.declared.keeper.Keeper.{Keeper}
use Rattle.itip_running.specs.declared.pass.Pass.{Pass}
use Rattle.itip_office.specs.Pairs.{pair_of, pair_at, AreNumbered, IsStarted}

-- a running desk that was just made
pub read_started : (texts : Shown) (keeper : Keeper) (passes : List Pass) → IsDeskOf [] 0 texts
    → (publishes keeper ≡ []) × (pending keeper ≡ [])
    → All (λ (p : Pass). (publishes_seen p ≡ []) × (pass_pair p ≡ keeper_pair keeper)) passes
    → IsStarted (keeper_pair keeper) texts (Some keeper) passes
read_started texts keeper passes empty none each = record {
  fresh = record { empty = empty; idle = none.1; unpublished = none.0; of_pair = refl };
  passes_are = All-weaker (λ (p : Pass). (publishes_seen p ≡ []) × (pass_pair p ≡ keeper_pair keeper))
      (λ (p : Pass). pass_pair p ≡ keeper_pair keeper) (λ p is. is.1) passes each;
}

-- a desk that is not read
pub unread_started : (texts : Shown) (passes : List Pass) → IsDeskOf [] 0 texts → passes ≡ [] → (pair : Option Book) →
    IsStarted pair texts None passes
unread_started texts passes empty none pair = record {
  fresh = record { empty = empty; idle = tt; unpublished = tt; of_pair = tt };
  passes_are = All-same (λ (p : Pass). pass_pair p ≡ pair) passes [] none (All-nil (λ (p : Pass). pass_pair p ≡ pair));
}

-- what holds for every pair holds for the pair of each
pub of_any_pair : {X : Type 0} (Has : Option Book → X → Type 0) (pair : X → Option Book) (xs : List X) →
    All (λ (x : X). (p : Option Book) → Has p x) xs → All (λ (x : X). Has (pair x) x) xs
of_any_pair {X} Has pair xs all =
    All-weaker (λ (x : X). (p : Option Book) → Has p x) (λ (x : X). Has (pair x) x) (λ x has. has (pair x)) xs all

pub numbered_more : {X : Type 0} (number : X → ℕ) (n : ℕ) (xs : List X) (x : X) → AreNumbered number n xs → number x ≡ n + length xs →
    AreNumbered number n (xs ++ x ∷ [])
numbered_more number n [] x are is = (omega (arith, is), tt)
numbered_more number n (y ∷ xs) x are is = (are.0, numbered_more number (n + 1) xs x are.1 (omega (arith, is)))

one_more : (n k : ℕ) → n + 1 + k ≡ n + suc k
one_more n k = omega arith

from_none : (k : ℕ) → 0 + k ≡ k
from_none k = omega arith

-- the pair at the number of each is its own
module _ {X : Type 0} (number : X → ℕ) (shown : X → Option Keeper) (Has : Option Book → X → Type 0) where
  own_from : (pair : ℕ → Option Book) (n : ℕ) (xs : List X) → AreNumbered number n xs →
      ((k : ℕ) → pair (n + k) ≡ pair_at (map shown xs) k)
      → All (λ (x : X). Has (pair_of (shown x)) x) xs → All (λ (x : X). Has (pair (number x)) x) xs
  own_from pair n [] are same all = All-nil (λ (x : X). Has (pair (number x)) x)
  own_from pair n (x ∷ xs) are same all =
      let at : number x ≡ n + 0 = omega (arith, are.0) in
      let first : pair_of (shown x) ≡ pair (number x) =
      sym (ap pair at ∙ same 0) in
      All-cons (λ (y : X). Has (pair (number y)) y) x xs
      (subst (λ (p : Option Book). Has p x) first (All-head (λ (y : X). Has (pair_of (shown y)) y) x xs all))
      (own_from pair (n + 1) xs are.1 (λ k. ap pair (one_more n k) ∙ same (suc k))
      (All-tail (λ (y : X). Has (pair_of (shown y)) y) x xs all))

  pub own_pairs : (xs : List X) → AreNumbered number 0 xs → All (λ (x : X). Has (pair_of (shown x)) x) xs →
      All (λ (x : X). Has (pair_at (map shown xs) (number x)) x) xs
  own_pairs xs are all =
      own_from (pair_at (map shown xs)) 0 xs are (λ k. ap (pair_at (map shown xs)) (from_none k)) all
