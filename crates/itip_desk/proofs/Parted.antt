-- A list that a search parts: what stands before the place that it finds, and what stands behind.
use Rattle.std.proofs.Common.{◌≡◌, ◌∙◌, ◌+◌, ◌-◌, ◌<◌, ◌≤◌, ◌⊎◌, inl, inr, ℕ, List, length, take, drop}
use Rattle.std.proofs.Common.{Bool, true, false, sym, subst, arith}
use Rattle.std.specs.List.{Contains}
use Rattle.std.specs.List.Sorted.{IsPartitionPoint}
use Rattle.std.proofs.lemmas.List.{get_or-take, get_or-drop, length-take-le, length-drop, take-append-drop}
use Rattle.std.proofs.lemmas.List.Elements.{Contains-append_cases, Contains-append_right}

module _ {X : Type 0} (p : X → Bool) (xs : List X) (place : ℕ) (within : place ≤ length xs)
    (parted : IsPartitionPoint (λ x. p x ≡ true) (λ x. p x ≡ false) xs place) where
  differ : (b : Bool) → b ≡ true → b ≡ false → ⊥
  differ b passes fails = cc

  pub in_front : (x : X) → Contains (take place xs) x → p x ≡ true
  in_front x h =
      let long : length (take place xs) ≡ place = length-take-le place xs within in
      let below : h.0 < place = omega (arith, h.1, long) in
      subst (λ (y : X). p y ≡ true) (sym (get_or-take place xs h.0 x below) ∙ h.2) (parted.0 h.0 x (omega arith) below)

  pub in_back : (x : X) → Contains (drop place xs) x → p x ≡ false
  in_back x h =
      let left : length (drop place xs) ≡ length xs - place = length-drop place xs in
      let inside : place + h.0 < length xs = omega (arith, h.1, left, within) in
      subst (λ (y : X). p y ≡ false) (sym (get_or-drop place xs h.0 x) ∙ h.2) (parted.1 (place + h.0) x (omega arith) inside)

  either : (x : X) → Contains xs x → Contains (take place xs) x ⊎ Contains (drop place xs) x
  either x h = Contains-append_cases (take place xs) (drop place xs) x
      (subst (λ (all : List X). Contains all x) (sym (take-append-drop place xs)) h)

  pub into_front : (x : X) → Contains xs x → p x ≡ true → Contains (take place xs) x
  into_front x h passes = elim (either x h) [ inl front ↦ front | inr back ↦ absurd (differ (p x) passes (in_back x back)) ]

  pub into_back : (x : X) → Contains xs x → p x ≡ false → Contains (drop place xs) x
  into_back x h fails = elim (either x h) [ inl front ↦ absurd (differ (p x) (in_front x front) fails) | inr back ↦ back ]

  pub from_back : (x : X) → Contains (drop place xs) x → Contains xs x
  from_back x h = subst (λ (all : List X). Contains all x) (take-append-drop place xs)
      (Contains-append_right (take place xs) (drop place xs) x h)
