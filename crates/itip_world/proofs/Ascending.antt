-- The elements of a list, and lists that ascend, by recursion.
use Rattle.std.proofs.Common.{◌≡◌, ℕ, zero, suc, ◌<◌, List, [], ◌∷◌, length, get_or, arith, inl, inr}
use Rattle.std.specs.Prelude.{◌⊎◌}
use Rattle.std.specs.List.{AllByRecursion, AllPairs, Contains}

-- an element, by recursion on the list
abbrev pub IsIn : {X : Type 0} → List X → X → Type 0
IsIn [] y = ⊥
IsIn (x ∷ xs) y = (x ≡ y) ⊎ IsIn xs y

pub in_contained : {X : Type 0} (xs : List X) (y : X) → Contains xs y → IsIn xs y
in_contained [] y h = absurd (omega (arith, h.1))
in_contained (x ∷ xs) y (zero, within, is) = inl is
in_contained (x ∷ xs) y (suc k, within, is) = inr (in_contained xs y (k, omega arith, is))

pub contained_in : {X : Type 0} (xs : List X) (y : X) → IsIn xs y → Contains xs y
contained_in [] y h = absurd h
contained_in (x ∷ xs) y (inl e) = (0, omega arith, e)
contained_in (x ∷ xs) y (inr h) = let at = contained_in xs y h in (suc at.0, omega (arith, at.1), at.2)

-- each element is less than those after it, by recursion
abbrev pub Ascends : {X : Type 0} → (X → X → Type 0) → List X → Type 0
Ascends R [] = Unit {0}
Ascends R (x ∷ xs) = AllByRecursion (R x) xs × Ascends R xs

all_behind : {X : Type 0} (R : X → X → Type 0) (x : X) (xs : List X) → ((j : ℕ) → j < length xs → R x (get_or xs j x)) →
    AllByRecursion (R x) xs
all_behind R x [] each = tt
all_behind R x (y ∷ ys) each = (each 0 (omega arith), all_behind R x ys (λ j h. each (suc j) (omega arith)))

pub ascends_by_pairs : {X : Type 0} (R : X → X → Type 0) (xs : List X) → AllPairs R xs → Ascends R xs
ascends_by_pairs R [] pairs = tt
ascends_by_pairs R (x ∷ xs) pairs = (
  all_behind R x xs (λ j h. pairs 0 (suc j) x (omega arith) (omega arith)),
  ascends_by_pairs R xs (λ i j d lt within. pairs (suc i) (suc j) d (omega arith) (omega arith)),
)
