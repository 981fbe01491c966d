-- Moments in ascending order: one is found by binary search, and a later one goes to the end.
use Rattle.std.proofs.Common.{◌≡◌, ℕ, ◌+◌, ◌↔◌, Bool, true, false, not, if◌then◌else◌, inl, inr, refl, sym, subst, ap, ◌∙◌, arith, ◌<ℤ◌}
use Rattle.std.proofs.Common.{List, [], ◌∷◌, ◌++◌, length, get_or, IsTrue, Result, Ok, Err}
use Rattle.std.specs.List.{Contains, AllByRecursion}
use Rattle.std.specs.List.Sorted.{IsSorted, IsStrictlySortedBy, IsBinarySearchResult, IsSearchInRange}
use Rattle.std.specs.Ordering.{is_lt, ordering_reverse}
use Rattle.std.specs.Result.{is_ok}
use Rattle.std.specs.declared.cmp.Ordering.TheVariants.{Less, Equal, Greater}
use Rattle.std.proofs.lemmas.Bool.{cases_lt}
use Rattle.std.proofs.lemmas.Cmp.{tied_itself}
use Rattle.std.proofs.lemmas.List.Elements.{Contains-get_or, Contains-append_right, Contains-from_at}
use Rattle.std.proofs.lemmas.List.Sorted.{searchable_from_sorted}
use Rattle.std.proofs.lemmas.Map.Keys.{Less-from_sorted}
use Rattle.itip_moment.specs.declared.moment.Moment.{Moment}
use Rattle.itip_moment.specs.Moment.{moment_day}
use Rattle.itip_moment.specs.Order.{moment_cmp}
use Rattle.itip_moment.specs.OrderLaws.{moment_total}
use Rattle.itip_moment.proofs.Same.{moment_equal}
use Rattle.itip_recur.proofs.Moments.{moment_cmp-Less}

all_push : (P : Moment → Type 0) (xs : List Moment) (x : Moment) → AllByRecursion P xs → P x → AllByRecursion P (xs ++ x ∷ [])
all_push P [] x all here = (here, tt)
all_push P (y ∷ ys) x all here = (all.0, all_push P ys x all.1 here)

sorted_push : (xs : List Moment) (x : Moment) → IsStrictlySortedBy moment_cmp xs → ((y : Moment) → Contains xs y → moment_cmp y x ≡ Less) →
    IsStrictlySortedBy moment_cmp (xs ++ x ∷ [])
unfolding IsStrictlySortedBy
sorted_push [] x s below = (tt, tt)
sorted_push (y ∷ ys) x s below = (
  all_push (λ z. moment_cmp y z ≡ Less) ys x s.0 (below y (Contains-get_or (y ∷ ys) 0 y (omega arith))),
  sorted_push ys x s.1 (λ z h. below z (Contains-append_right (y ∷ []) ys z h)),
)

-- a moment of a later day than all goes to the end
pub later_push : (xs : List Moment) (x : Moment) → IsStrictlySortedBy moment_cmp xs →
    ((y : Moment) → Contains xs y → moment_day y <ℤ moment_day x) → IsStrictlySortedBy moment_cmp (xs ++ x ∷ [])
later_push xs x s later = sorted_push xs x s (λ y h. moment_cmp-Less y x (later y h))

ascends : (xs : List Moment) → IsStrictlySortedBy moment_cmp xs → IsSorted moment_cmp xs
ascends xs s k d low high =
    let less = Less-from_sorted moment_cmp xs k (k + 1) d s (omega arith) high in
    let flip : moment_cmp (get_or xs (k + 1) d) (get_or xs k d) ≡ Greater = moment_total.antisymm (get_or xs (k + 1) d) (get_or xs k d) ∙
    ap ordering_reverse less in
    ap is_lt flip

-- a binary search finds exactly what is there
pub sought : (xs : List Moment) (x : Moment) (r : Result ℕ ℕ) → IsStrictlySortedBy moment_cmp xs → IsSearchInRange r (length xs) →
    IsBinarySearchResult (λ y. moment_cmp y x) xs r → IsTrue (is_ok r) ↔ Contains xs x
sought xs x (Ok i) s bound at = (λ h. Contains-from_at xs x (i, bound, λ d. moment_equal (get_or xs i d) x (at d)), λ h. refl)
sought xs x (Err i) s bound parted = (
  λ h. absurd (let no : false ≡ true = h in cc),
  λ among. absurd
      (let parts = parted (searchable_from_sorted moment_total (λ y. y) xs x (ascends xs s)) in
      let tied : moment_cmp (get_or xs among.0 x) x ≡ Equal = ap (λ y. moment_cmp y x) among.2 ∙ tied_itself moment_total x in
      elim (cases_lt among.0 i) [
        | inl below ↦ let less : moment_cmp (get_or xs among.0 x) x ≡ Less = parts.0 among.0 x (omega arith) below in cc
        | inr above ↦ let greater : moment_cmp (get_or xs among.0 x) x ≡ Greater = parts.1 among.0 x above among.1 in cc
      ]),
)

-- as it is after a push that may have been refused
pub pushed : (b : Bool) (old new : List Moment) (x : Moment) → new ≡ (if b then old ++ x ∷ [] else old) →
    IsStrictlySortedBy moment_cmp old → ((y : Moment) → Contains old y → moment_day y <ℤ moment_day x) → IsStrictlySortedBy moment_cmp new
pushed true old new x is s later = subst (IsStrictlySortedBy moment_cmp) (sym is) (later_push old x s later)
pushed false old new x is s later = subst (IsStrictlySortedBy moment_cmp) (sym is) s

pub not_true : (b : Bool) → (IsTrue b → ⊥) → IsTrue (not b)
not_true true none = absurd (none refl)
not_true false none = refl

pub nothing_ascends : (moments : List Moment) → moments ≡ [] → IsStrictlySortedBy moment_cmp moments
unfolding IsStrictlySortedBy
nothing_ascends moments empty = subst (IsStrictlySortedBy moment_cmp) (sym empty) tt

pub not_both : (b : Bool) → IsTrue (not b) → IsTrue b → ⊥
not_both true p q = let same : false ≡ true = p in cc
not_both false p q = let same : false ≡ true = q in cc
