-- The elements of a list, each once and in order.
use Rattle.std.proofs.Common.{◌≡◌, ◌∙◌, sym, ap, refl, zero, suc, List, [], ◌∷◌, arith, inl, inr}
use Rattle.std.specs.Prelude.{◌⊎◌, ◌↔◌}
use Rattle.std.specs.BTreeSet.{insert_key}
use Rattle.std.specs.Cmp.{IsTotalOrder}
use Rattle.std.specs.List.{AllByRecursion, Contains}
use Rattle.std.specs.List.Sorted.{IsStrictlySortedBy}
use Rattle.std.specs.Ordering.{match_ordering, ordering_reverse}
use Rattle.std.specs.declared.cmp.Ordering.{Ordering}
use Rattle.std.specs.declared.cmp.Ordering.TheVariants.{Less, Equal, Greater}
use Rattle.std.proofs.lemmas.Map.Lookups.{CmpEqualImpliesEq}

-- an element, by recursion on the list
abbrev pub IsIn : {X : Type 0} → List X → X → Type 0
IsIn [] y = ⊥
IsIn (x ∷ xs) y = (x ≡ y) ⊎ IsIn xs y

pub in_contained : {X : Type 0} (xs : List X) (y : X) → Contains xs y → IsIn xs y
in_contained [] y h = absurd (omega (arith, h.1))
in_contained (x ∷ xs) y (zero, within, is) = inl is
in_contained (x ∷ xs) y (suc k, within, is) = inr (in_contained xs y (k, omega arith, is))

pub contained_in : {X : Type 0} (xs : List X) (y : X) → IsIn xs y → Contains xs y
contained_in [] y h = absurd h
contained_in (x ∷ xs) y (inl e) = (0, omega arith, e)
contained_in (x ∷ xs) y (inr h) = let at = contained_in xs y h in (suc at.0, omega (arith, at.1), at.2)

swapped : {A B : Type 0} → A ⊎ B → B ⊎ A
swapped (inl a) = inr a
swapped (inr b) = inl b

-- a list that ascends, with the elements of another
pub record IsInOrder {K : Type 0} (R : K → K → Ordering) (xs : List K) : Type 0 where
  pub list : List K
  pub ascends : IsStrictlySortedBy R list
  pub same : (m : K) → IsIn list m ↔ IsIn xs m

module _ {K : Type 0} (R : K → K → Ordering) (total : IsTotalOrder R) (exact : CmpEqualImpliesEq R) where
  all_below : (x y : K) (ks : List K) → R x y ≡ Less → AllByRecursion (λ z. R y z ≡ Less) ks → AllByRecursion (λ z. R x z ≡ Less) ks
  all_below x y [] e h = tt
  all_below x y (z ∷ ks) e h = (total.trans x y z e h.0, all_below x y ks e h.1)

  below_insert : (x k : K) (ks : List K) → R x k ≡ Less → AllByRecursion (λ z. R x z ≡ Less) ks →
      AllByRecursion (λ z. R x z ≡ Less) (insert_key R ks k)
  below_insert x k [] e h = (e, tt)
  below_insert x k (y ∷ ks) e h =
      elim (R k y) as (λ o. AllByRecursion (λ z. R x z ≡ Less) (match_ordering o (k ∷ y ∷ ks) (y ∷ ks) (y ∷ insert_key R ks k))) [
        | Less ↦ (e, h)
        | Equal ↦ h
        | Greater ↦ (h.0, below_insert x k ks e h.1)
      ]

  sorted_insert : (ks : List K) (k : K) → IsStrictlySortedBy R ks → IsStrictlySortedBy R (insert_key R ks k)
  unfolding IsStrictlySortedBy
  sorted_insert [] k h = (tt, tt)
  sorted_insert (y ∷ ks) k h =
      elim (R k y) as (λ o. R k y ≡ o → IsStrictlySortedBy R (match_ordering o (k ∷ y ∷ ks) (y ∷ ks) (y ∷ insert_key R ks k))) [
        | Less ↦ λ e. ((e, all_below k y ks e h.0), h)
        | Equal ↦ λ e. h
        | Greater ↦ λ e. (below_insert y k ks (total.antisymm y k ∙ ap ordering_reverse e) h.0, sorted_insert ks k h.1)
      ] refl

  in_insert : (ks : List K) (k m : K) → IsIn (insert_key R ks k) m → IsIn ks m ⊎ (k ≡ m)
  in_insert [] k m (inl e) = inr e
  in_insert [] k m (inr h) = absurd h
  in_insert (y ∷ ks) k m h =
      elim (R k y) as (λ o. IsIn (match_ordering o (k ∷ y ∷ ks) (y ∷ ks) (y ∷ insert_key R ks k)) m → IsIn (y ∷ ks) m ⊎ (k ≡ m)) [
        | Less ↦ λ g. swapped g
        | Equal ↦ λ g. inl g
        | Greater ↦ λ g. elim g [ inl e ↦ inl (inl e) | inr i ↦ elim (in_insert ks k m i) [ inl j ↦ inl (inr j) | inr e ↦ inr e ] ]
      ] h

  insert_in : (ks : List K) (k m : K) → IsIn ks m ⊎ (k ≡ m) → IsIn (insert_key R ks k) m
  insert_in [] k m (inl h) = absurd h
  insert_in [] k m (inr e) = inl e
  insert_in (y ∷ ks) k m h = elim (R k y) as (λ o. R k y ≡ o → IsIn (match_ordering o (k ∷ y ∷ ks) (y ∷ ks) (y ∷ insert_key R ks k)) m) [
    | Less ↦ λ e. swapped h
    | Equal ↦ λ e. elim h [ inl i ↦ i | inr same ↦ inl (sym (exact k y e) ∙ same) ]
    | Greater ↦ λ e. elim h [
      | inl i ↦ elim i [ inl same ↦ inl same | inr j ↦ inr (insert_in ks k m (inl j)) ]
      | inr same ↦ inr (insert_in ks k m (inr same))
    ]
  ] refl

  pub in_order : (xs : List K) → IsInOrder R xs
  unfolding IsStrictlySortedBy
  in_order [] = record { list = []; ascends = tt; same = λ m. (λ h. h, λ h. h) }
  in_order (x ∷ xs) =
      let rest = in_order xs in
      record {
        list = insert_key R rest.list x;
        ascends = sorted_insert rest.list x rest.ascends;
        same = λ m. (
          λ h. elim (in_insert rest.list x m h) [ inl i ↦ inr ((rest.same m).0 i) | inr e ↦ inl e ],
          λ h. insert_in rest.list x m (elim h [ inl e ↦ inr e | inr i ↦ inl ((rest.same m).1 i) ]),
        );
      }
