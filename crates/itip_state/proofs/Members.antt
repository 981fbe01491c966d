-- Members of lists, and cases by a test.
use Rattle.std.proofs.Common.{◌≡◌, List, [], ◌∷◌, ◌++◌, ◌≤◌, ◌<◌, length, slice_index_or, refl, sym, ap, subst, ◌⊎◌, inl, inr, Bool, true}
use Rattle.std.proofs.Common.{false, arith, zero, suc, Ok, Err, Result}
use Rattle.std.specs.Prelude.{is_ok, OnOk, OnErr, IfOk, IfSome, Option, Some, None}
use Rattle.std.specs.List.{Contains, All, AllPairs}
use Rattle.std.proofs.lemmas.List.Elements.{Contains-append_cases, Contains-append_left, Contains-append_right, Contains-push}
use Rattle.std.proofs.lemmas.List.Elements.{Contains-push_cases, All-contains_itself, All-weaker}
use Rattle.std.proofs.lemmas.List.Kept.{AllPairs-cons}

pub by_bool : (b : Bool) (G : Type 0) → (b ≡ true → G) → (b ≡ false → G) → G
by_bool true G p q = p refl
by_bool false G p q = q refl

module _ {X : Type 0} where
  pub none_in : (x : X) → Contains [] x → ⊥
  none_in x h = omega (arith, h.1)

  pub cons_cases : (x : X) (xs : List X) (y : X) → Contains (x ∷ xs) y → (x ≡ y) ⊎ Contains xs y
  cons_cases x xs y h =
      elim (Contains-append_cases (x ∷ []) xs y h) [
        | inl first ↦ elim (Contains-push_cases [] x y first) [ inl none ↦ absurd (omega (arith, none.1)) | inr same ↦ inl same ]
        | inr other ↦ inr other
      ]

  pub cons_first : (x : X) (xs : List X) → Contains (x ∷ xs) x
  cons_first x xs = Contains-append_left (x ∷ []) xs x (Contains-push [] x)

  pub cons_later : (x : X) (xs : List X) (y : X) → Contains xs y → Contains (x ∷ xs) y
  cons_later x xs y h = Contains-append_right (x ∷ []) xs y h

  pub all_each : (P : X → Type 0) (xs : List X) → ((x : X) → Contains xs x → P x) → All P xs
  all_each P xs h = All-weaker (Contains xs) P h xs (All-contains_itself xs)

  pub no_pairs : (R : X → X → Type 0) → AllPairs R []
  no_pairs R = λ i j d below inside. absurd (omega (arith, inside))

  pub pairs_append : (R : X → X → Type 0) (xs ys : List X) → AllPairs R xs → AllPairs R ys →
      ((x y : X) → Contains xs x → Contains ys y → R x y) → AllPairs R (xs ++ ys)
  pairs_append R [] ys p q cross = q
  pairs_append R (x ∷ xs) ys p q cross = AllPairs-cons R x (xs ++ ys)
      (all_each (R x) (xs ++ ys) (λ y h. elim (Contains-append_cases xs ys y h)
      [ inl left ↦ head_pair y left | inr right ↦ cross x y (cons_first x xs) right ]))
      (pairs_append R xs ys tail_pairs q (λ a b h g. cross a b (cons_later x xs a h) g))
    where
      tail_pairs : AllPairs R xs
      tail_pairs = λ i j d below inside. p (suc i) (suc j) d (omega arith) (omega arith)

      head_pair : (y : X) → Contains xs y → R x y
      head_pair y h = subst (R x) h.2 (p zero (suc h.0) y (omega arith) (omega (arith, h.1)))

-- the list of one element
pub single_is : {X : Type 0} (x : X) (xs : List X) → 1 ≤ length xs → length xs < 2 → x ≡ slice_index_or xs 0 x → xs ≡ x ∷ []
single_is x [] low high e = absurd (omega (arith, low))
single_is x (y ∷ []) low high e = ap (λ z. z ∷ []) (sym e)
single_is x (y ∷ z ∷ zs) low high e = absurd (omega (arith, high))

-- a fact that holds whether a call succeeds or fails
pub on_both : {A E P Q R : Type 0} (r : Result A E) → (P → R) → (Q → R) → OnOk r P → OnErr r Q → R
on_both (Ok x) f g p q = f p
on_both (Err e) f g p q = g q

pub on_ok_then : {A E P Q : Type 0} (r : Result A E) → (P → Q) → OnOk r P → OnOk r Q
on_ok_then (Ok x) f p = f p
on_ok_then (Err e) f p = tt

pub if_ok_then : {A E : Type 0} (P Q : A → Type 0) (r : Result A E) → ((a : A) → P a → Q a) → IfOk r P → IfOk r Q
if_ok_then P Q (Ok a) f p = f a p
if_ok_then P Q (Err e) f p = tt

pub on_ok_always : {A E P : Type 0} (r : Result A E) → P → OnOk r P
on_ok_always (Ok x) p = p
on_ok_always (Err e) p = tt

pub if_some_then : {A : Type 0} (o : Option A) (P Q : A → Type 0) → ((a : A) → P a → Q a) → IfSome o P → IfSome o Q
if_some_then None P Q f p = tt
if_some_then (Some a) P Q f p = f a p

pub when_ok : {A E P : Type 0} (r : Result A E) → OnOk r P → is_ok r ≡ true → P
when_ok (Ok x) p e = p
when_ok (Err x) p e = let f : false ≡ true = e in absurd (cc)
