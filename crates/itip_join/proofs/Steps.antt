-- One entry of a map is looked at, to find whether the map is below another.
use Rattle.std.proofs.Common.{◌≡◌, Bool, List, ◌∷◌, true, Some}
use Rattle.std.specs.Prelude.{Option}
use Rattle.std.specs.Cmp.{IsTotalOrder}
use Rattle.std.specs.declared.cmp.Ordering.{Ordering}
use Rattle.std.specs.declared.cmp.Ordering.TheVariants.{Equal}
use Rattle.itip_join.specs.Optional.{IsBelowUnder}
use Rattle.itip_join.proofs.Walk.{IsWalk, walk_next, walk_found, walk_step}
use Rattle.itip_join.proofs.Puts.{below_dead, below_both}

module _ {K V : Type 0} {cmp : K → K → Ordering} (total : IsTotalOrder cmp) (exact : (x y : K) → cmp x y ≡ Equal → x ≡ y)
    (le : V → V → Type 0) (dead : K → V → Bool) (mine theirs : K → Option V) where
  abbrev pub IsBelowWalk : List (K × V) → Type 0
  IsBelowWalk rest = IsWalk cmp mine (λ q. IsBelowUnder (dead q) le (mine q) (theirs q)) (λ q. Unit {0}) rest

  module _ {k : K} {v : V} {s rest : List (K × V)} (next : s ≡ (k, v) ∷ rest) (walk : IsBelowWalk s) where
    here : IsBelowWalk ((k, v) ∷ rest)
    here = walk_next total exact next walk

    passes : IsBelowUnder (dead k) le (mine k) (theirs k) → IsBelowWalk rest
    passes h = walk_step total exact here (λ q. IsBelowUnder (dead q) le (mine q) (theirs q)) (λ q. Unit {0}) h (λ q e p. p) (λ q e u. u)

    pub step_dead : dead k v ≡ true → IsBelowWalk rest
    step_dead d = passes (below_dead le (dead k) (theirs k) (walk_found total exact here) d)

    pub step_alive : (w : V) → theirs k ≡ Some w → le v w → IsBelowWalk rest
    step_alive w e l = passes (below_both le (dead k) (walk_found total exact here) e l)
