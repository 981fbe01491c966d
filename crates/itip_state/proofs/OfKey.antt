-- Among items in the order of their keys, each is the best of its key.
use Rattle.std.proofs.Common.{◌≡◌, ◌≤◌, ℕ, List, [], ◌∷◌, length, slice_index_or, zero, suc, refl, sym, ◌∙◌, ap, subst, inl, inr, arith}
use Rattle.std.proofs.Common.{Option, Some, None}
use Rattle.std.specs.Prelude.{MatchOption}
use Rattle.std.specs.List.{Contains, AllPairs}
use Rattle.std.specs.Cmp.{tied_itself}
use Rattle.std.specs.Ordering.{nat_cmp, ordering_then}
use Rattle.std.specs.Cmp.Lexicographic.{slice_cmp}
use Rattle.std.specs.declared.cmp.Ordering.TheVariants.{Less, Equal, Greater}
use Rattle.std.proofs.lemmas.Cmp.{nat_list_cmp_total}
use Rattle.itip_items.specs.RevisionOrder.{IsLater}
use Rattle.itip_items.specs.declared.item.Item.{Item}
use Rattle.itip_items.specs.KeyParts.{uid_of}
use Rattle.itip_items.specs.declared.key.Key.{Key}
use Rattle.itip_items.specs.declared.key.Key.TheVariants.{Series, Instance, Range, Answer, Refresh}
use Rattle.itip_state.specs.Kept.{IsBest, IsBestOf, AscendKeys}
use Rattle.itip_state.specs.Slots.{key_cmp, key_total, rest_cmp}
use Rattle.itip_state.proofs.Best.{not_later_itself}
use Rattle.itip_state.proofs.Members.{none_in, cons_cases}
use Rattle.itip_state.proofs.Ordered.{IsBefore}

module _ {X : Type 0} (R : X → X → Type 0) (x : X) (xs : List X) (p : AllPairs R (x ∷ xs)) where
  pub head_pair : (y : X) → Contains xs y → R x y
  head_pair y h = subst (R x) h.2 (p zero (suc h.0) y (omega arith) (omega (arith, h.1)))

  pub tail_pairs : AllPairs R xs
  tail_pairs = λ i j d below inside. p (suc i) (suc j) d (omega arith) (omega arith)

not_same : (x y : Item) → key_cmp x.key y.key ≡ Less → x.key ≡ y.key → ⊥
not_same x y e same = let z : Less ≡ Equal = sym e ∙ ap (λ (k : Key). key_cmp k y.key) same ∙ tied_itself key_total y.key in cc

pub one_of_key : (items : List Item) → AscendKeys items → (i j : Item) → Contains items i → Contains items j → i.key ≡ j.key → i ≡ j
one_of_key [] a i j h g same = absurd (none_in i h)
one_of_key (x ∷ xs) a i j h g same = elim (cons_cases x xs i h) [
  | inl first ↦ elim (cons_cases x xs j g) [
    | inl also ↦ sym first ∙ also
    | inr later ↦ absurd (not_same x j (head_pair IsBefore x xs a j later) (ap (λ (k : Item). k.key) first ∙ same))
  ]
  | inr rest ↦ elim (cons_cases x xs j g) [
    | inl also ↦ absurd (not_same x i (head_pair IsBefore x xs a i rest) (ap (λ (k : Item). k.key) also ∙ sym same))
    | inr later ↦ one_of_key xs (tail_pairs IsBefore x xs a) i j rest later same
  ]
]

pub best_in : (items : List Item) → AscendKeys items → (key : Key) (i : Item) → Contains items i → i.key ≡ key → IsBest items key i
best_in items a key i h about = record {
  is_heard = h;
  about = about;
  none_later = λ other g same. subst (λ (o : Item). ¬ IsLater o i) (one_of_key items a i other h g (about ∙ sym same)) (not_later_itself i);
}

-- what a lookup finds is the best
pub found_best : (items : List Item) → AscendKeys items → (key : Key) (o : Option Item) →
    MatchOption o ((i : Item) → Contains items i → i.key ≡ key → ⊥) (λ i. Contains items i × (i.key ≡ key))
    → IsBestOf items key o
found_best items a key None h = h
found_best items a key (Some i) h = best_in items a key i h.0 h.1

-- no other item of the UID comes before its series item
not_before : (uid : List ℕ) (k : Key) → uid_of k ≡ uid → ((u : List ℕ) → k ≡ Series u → ⊥) → key_cmp k (Series uid) ≡ Less → ⊥
not_before uid k same not e = by k (ap (λ (u : List ℕ). slice_cmp nat_cmp u uid) same ∙ tied_itself nat_list_cmp_total uid) not e
  where
    by : (k : Key) → slice_cmp nat_cmp (uid_of k) uid ≡ Equal → ((u : List ℕ) → k ≡ Series u → ⊥) → key_cmp k (Series uid) ≡ Less → ⊥
    by (Series u) tied not e = not u refl
    by (Instance u id) tied not e = let x : Less ≡ Greater = sym e ∙
        ap (λ o. ordering_then o (rest_cmp (Instance u id) (Series uid))) tied in cc
    by (Range u id) tied not e = let x : Less ≡ Greater = sym e ∙ ap (λ o. ordering_then o (rest_cmp (Range u id) (Series uid))) tied in cc
    by (Answer u id attendee) tied not e = let x : Less ≡ Greater = sym e ∙
        ap (λ o. ordering_then o (rest_cmp (Answer u id attendee) (Series uid))) tied in cc
    by (Refresh u id attendee) tied not e = let x : Less ≡ Greater = sym e ∙
        ap (λ o. ordering_then o (rest_cmp (Refresh u id attendee) (Series uid))) tied in cc

-- if the first item of a UID is not a series item, there is none
pub first_is_none : (uid : List ℕ) (x : Item) (xs : List Item) → AscendKeys (x ∷ xs) → uid_of x.key ≡ uid →
    ((u : List ℕ) → x.key ≡ Series u → ⊥) → (i : Item) → Contains (x ∷ xs) i → i.key ≡ Series uid → ⊥
first_is_none uid x xs a about not i h same = elim (cons_cases x xs i h) [
  | inl first ↦ not uid (ap (λ (j : Item). j.key) first ∙ same)
  | inr rest ↦ not_before uid x.key about not (subst (λ (k : Key). key_cmp x.key k ≡ Less) same (head_pair IsBefore x xs a i rest))
]

-- a list that has a first element
pub first_of : {X : Type 0} (x : X) (xs : List X) → 1 ≤ length xs → x ≡ slice_index_or xs 0 x → (rest : List X) × (xs ≡ x ∷ rest)
first_of x [] low e = absurd (omega (arith, low))
first_of x (y ∷ ys) low e = (ys, ap (λ z. z ∷ ys) (sym e))
