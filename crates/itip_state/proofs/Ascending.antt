-- A strictly sorted list has each pair in order.
use Rattle.std.proofs.Common.{◌≡◌, List, [], ◌∷◌, arith}
use Rattle.std.specs.List.{All, AllPairs, AllByRecursion}
use Rattle.std.specs.List.Sorted.{IsStrictlySortedBy}
use Rattle.std.specs.declared.cmp.Ordering.{Ordering}
use Rattle.std.specs.declared.cmp.Ordering.TheVariants.{Less}
use Rattle.std.proofs.lemmas.List.Elements.{All-nil, All-cons}
use Rattle.std.proofs.lemmas.List.Kept.{AllPairs-cons}

all_of : {X : Type 0} (P : X → Type 0) (xs : List X) → AllByRecursion P xs → All P xs
all_of P [] h = All-nil P
all_of P (x ∷ xs) h = All-cons P x xs h.0 (all_of P xs h.1)

pub pairs_ascend : {X : Type 0} (cmp : X → X → Ordering) (xs : List X) → IsStrictlySortedBy cmp xs →
    AllPairs (λ (a b : X). cmp a b ≡ Less) xs
unfolding IsStrictlySortedBy
pairs_ascend cmp [] h = λ i j d below inside. absurd (omega (arith, inside))
pairs_ascend {X} cmp (x ∷ xs) h =
    AllPairs-cons (λ (a b : X). cmp a b ≡ Less) x xs (all_of (λ (b : X). cmp x b ≡ Less) xs h.0) (pairs_ascend cmp xs h.1)
