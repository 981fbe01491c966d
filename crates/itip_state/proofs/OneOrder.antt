-- Lists in one order that have the same members are one list.
use Rattle.std.proofs.Common.{◌≡◌, ◌≤◌, suc, List, [], ◌∷◌, length, refl, sym, ◌∙◌, subst, inl, inr, arith, ◌↔◌}
use Rattle.std.specs.List.{Contains, AllPairs}
use Rattle.std.specs.Cmp.{IsTotalOrder, tied_itself}
use Rattle.std.specs.declared.cmp.Ordering.{Ordering}
use Rattle.std.specs.declared.cmp.Ordering.TheVariants.{Less, Equal}
use Rattle.itip_state.proofs.Members.{none_in, cons_cases, cons_first, cons_later}

pub less_one_way : {X : Type 0} {c : X → X → Ordering} → IsTotalOrder c → (x y : X) → c x y ≡ Less → c y x ≡ Less → ⊥
less_one_way total x y less more = let e : Less ≡ Equal = sym (total.trans x y x less more) ∙ tied_itself total x in cc

module _ {X : Type 0} (R : X → X → Type 0) (apart : (x y : X) → R x y → R y x → ⊥) where
  first_before : (x : X) (xs : List X) → AllPairs R (x ∷ xs) → (y : X) → Contains xs y → R x y
  first_before x xs up y (k, within, is) = subst (λ (z : X). R x z) is (up 0 (suc k) y (omega arith) (omega arith))

  rest_up : (x : X) (xs : List X) → AllPairs R (x ∷ xs) → AllPairs R xs
  rest_up x xs up i j d less within = up (suc i) (suc j) d (omega arith) (omega arith)

  same_first : (x : X) (xs : List X) (y : X) (ys : List X) → AllPairs R (x ∷ xs) → AllPairs R (y ∷ ys) → Contains (y ∷ ys) x →
      Contains (x ∷ xs) y → x ≡ y
  same_first x xs y ys up over h g = elim (cons_cases y ys x h) [
    | inl same ↦ sym same
    | inr later ↦ elim (cons_cases x xs y g) [
      | inl same ↦ same
      | inr after ↦ absurd
          (apart x y (first_before x xs up y after) (first_before y ys over x later))
    ]
  ]

  rest_in : (x : X) (xs : List X) (y : X) (ys : List X) → AllPairs R (x ∷ xs) → x ≡ y → (i : X) → Contains xs i → Contains (y ∷ ys) i →
      Contains ys i
  rest_in x xs y ys up same i h g = elim (cons_cases y ys i g) [
    | inl one ↦
        let below : R x i = first_before x xs up i h in
        let itself : R x x = subst (λ (z : X). R x z) (sym (same ∙ one)) below in
        absurd (apart x x itself itself)
    | inr rest ↦ rest
  ]

  pub same_ascending : (xs ys : List X) → AllPairs R xs → AllPairs R ys → ((x : X) → Contains xs x ↔ Contains ys x) → xs ≡ ys
  same_ascending [] [] up over same = refl
  same_ascending [] (y ∷ ys) up over same = absurd (none_in y ((same y).1 (cons_first y ys)))
  same_ascending (x ∷ xs) [] up over same = absurd (none_in x ((same x).0 (cons_first x xs)))
  same_ascending (x ∷ xs) (y ∷ ys) up over same =
      let one : x ≡ y = same_first x xs y ys up over ((same x).0 (cons_first x xs)) ((same y).1 (cons_first y ys)) in
      let rest : xs ≡ ys = same_ascending xs ys (rest_up x xs up) (rest_up y ys over)
      (λ i. (
        λ h. rest_in x xs y ys up one i h ((same i).0 (cons_later x xs i h)),
        λ h. rest_in
            y ys x xs over (sym one) i h ((same i).1 (cons_later y ys i h)),
      )) in
      λ i. one i ∷ rest i

  -- if the first of a list comes after the first of another, so does all of the list
  after_first : (x : X) (xs : List X) (y : X) (ys : List X) → AllPairs R (x ∷ xs) → AllPairs R (y ∷ ys) → Contains ys x → (i : X) →
      Contains (x ∷ xs) i → Contains (y ∷ ys) i → Contains ys i
  after_first x xs y ys up over behind i h g = elim (cons_cases x xs i h) [
    | inl same ↦ subst (Contains ys) same behind
    | inr rest ↦ elim (cons_cases y ys i g) [
      | inl one ↦ absurd (apart x y (subst (λ (z : X). R x z) (sym one) (first_before x xs up i rest)) (first_before y ys over x behind))
      | inr later ↦ later
    ]
  ]

  -- a list whose members are all in another list is not longer than that
  pub not_longer : (xs ys : List X) → AllPairs R xs → AllPairs R ys → ((x : X) → Contains xs x → Contains ys x) → length xs ≤ length ys
  not_longer [] ys up over in_ys = omega arith
  not_longer (x ∷ xs) [] up over in_ys = absurd (none_in x (in_ys x (cons_first x xs)))
  not_longer (x ∷ xs) (y ∷ ys) up over in_ys = elim (cons_cases y ys x (in_ys x (cons_first x xs))) [
    | inl same ↦
        let rest : length xs ≤ length ys =
        not_longer xs ys (rest_up x xs up) (rest_up y ys over) (λ i h. rest_in
        x xs y ys up (sym same) i h (in_ys i (cons_later x xs i h))) in omega arith
    | inr behind ↦
        let rest : length (x ∷ xs) ≤ length ys =
        not_longer (x ∷ xs) ys up (rest_up y ys over) (λ i h. after_first x xs y ys up over behind i h (in_ys i h)) in omega arith
  ]
