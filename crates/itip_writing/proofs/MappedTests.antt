-- Tests of what a function makes of the elements of a list, and of one more element.
use Rattle.std.proofs.Common.{◌≡◌, ◌∙◌, ℕ, ◌+◌, ◌<◌, List, [], ◌∷◌, ◌++◌, length, map, take, get_or, refl, sym, ap, append-nil, subst, inl}
use Rattle.std.proofs.Common.{inr, arith, Bool, true, false, ◌||◌, ◌==◌}
use Rattle.std.specs.Prelude.{cond}
use Rattle.std.specs.List.{Contains, filter, list_any}
use Rattle.std.proofs.lemmas.Bool.{eqb-true}
use Rattle.std.proofs.lemmas.List.{take_more}
use Rattle.std.proofs.lemmas.List.Elements.{Contains-push_cases, filter_more}
use Rattle.itip_report.proofs.Mapped.{map_both}

pub any_mapped : {X Y : Type 0} (f : X → Y) (p : Y → Bool) (xs : List X) → list_any p (map f xs) ≡ list_any (λ x. p (f x)) xs
any_mapped f p [] = refl
any_mapped f p (x ∷ xs) = ap (λ b. p (f x) || b) (any_mapped f p xs)

-- ---- the elements that pass a test, with one more element looked at

module _ {X : Type 0} (p : X → Bool) (xs : List X) (i : ℕ) (x : X) (below : i < length xs) (here : x ≡ get_or xs i x) where
  one_more : filter p (take (i + 1) xs) ≡ filter p (take i xs) ++ cond (p x) (x ∷ []) []
  one_more = filter_more p xs i x below ∙ ap (λ y. filter p (take i xs) ++ cond (p y) (y ∷ []) []) (sym here)

  pub filter_pass : p x ≡ true → filter p (take (i + 1) xs) ≡ filter p (take i xs) ++ x ∷ []
  filter_pass true_is = one_more ∙ ap (λ b. filter p (take i xs) ++ cond b (x ∷ []) []) true_is

  pub filter_fail : p x ≡ false → filter p (take (i + 1) xs) ≡ filter p (take i xs)
  filter_fail false_is = one_more ∙ ap (λ b. filter p (take i xs) ++ cond b (x ∷ []) []) false_is ∙ append-nil (filter p (take i xs))

-- ---- whether there is an element

pub none_in_empty : {X Y : Type 0} (f : X → Y) (xs : List X) → (length xs == 0) ≡ true → 0 < length (map f xs) → ⊥
none_in_empty f [] e h = absurd (omega (arith, h))
none_in_empty f (x ∷ xs) e h = let none : length (x ∷ xs) ≡ 0 = eqb-true (length (x ∷ xs)) 0 e in absurd (omega (arith, none))

pub some_in_other : {X Y : Type 0} (f : X → Y) (xs : List X) → (length xs == 0) ≡ false → 0 < length (map f xs)
some_in_other f [] e = let t : true ≡ false = e in absurd cc
some_in_other f (x ∷ xs) e = omega arith

-- ---- what holds of each element, and of one more

pub each_more : {X Y : Type 0} (f : X → Y) (P : Y → Type 0) (xs : List X) (i : ℕ) (x : X) → i < length xs → x ≡ get_or xs i x →
    ((y : Y) → Contains (map f (take i xs)) y → P y) → P (f x) → (y : Y) → Contains (map f (take (i + 1) xs)) y → P y
each_more f P xs i x below here before one y h =
    let more : map f (take (i + 1) xs) ≡ map f (take i xs) ++ f x ∷ [] =
    ap (map f) (take_more xs i x below ∙ ap (λ z. take i xs ++ z ∷ []) (sym here)) ∙ map_both f (take i xs) (x ∷ []) in
    elim (Contains-push_cases (map f (take i xs)) (f x) y (subst (λ ys. Contains ys y) more h)) [
      | inl old ↦ before y old
      | inr same ↦ subst P same one
    ]
