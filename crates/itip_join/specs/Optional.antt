-- The order of what a map has at one key: a missing value is below every value (our own form).
use Rattle.std.specs.Prelude.{◌≡◌, Bool, true, false, cond, Option, Some, None, ◌⊎◌}
use Rattle.std.proofs.Common.{ap, refl, inl, inr}

-- the first tells no more than the second
abbrev pub IsBelowAt : {V : Type 0} → (V → V → Type 0) → Option V → Option V → Type 0
IsBelowAt le None y = Unit {0}
IsBelowAt le (Some x) None = ⊥
IsBelowAt le (Some x) (Some y) = le x y

-- the same, or the first is dead
abbrev pub IsBelowUnder : {V : Type 0} → (V → Bool) → (V → V → Type 0) → Option V → Option V → Type 0
IsBelowUnder dead le None y = Unit {0}
IsBelowUnder dead le (Some x) None = dead x ≡ true
IsBelowUnder dead le (Some x) (Some y) = (dead x ≡ true) ⊎ le x y

-- the value, unless it is dead
abbrev pub alive_part : {V : Type 0} → (V → Bool) → Option V → Option V
alive_part dead None = None
alive_part dead (Some x) = cond (dead x) None (Some x)

module _ {V : Type 0} (le : V → V → Type 0) where
  pub IsBelowAt-refl : ((x : V) → le x x) → (a : Option V) → IsBelowAt le a a
  IsBelowAt-refl r None = tt
  IsBelowAt-refl r (Some x) = r x

  pub IsBelowAt-trans : ((x y z : V) → le x y → le y z → le x z) → (a b c : Option V) → IsBelowAt le a b → IsBelowAt le b c →
      IsBelowAt le a c
  IsBelowAt-trans t None b c p q = tt
  IsBelowAt-trans t (Some x) None c p q = absurd p
  IsBelowAt-trans t (Some x) (Some y) None p q = absurd q
  IsBelowAt-trans t (Some x) (Some y) (Some z) p q = t x y z p q

  pub IsBelowAt-antisym : ((x y : V) → le x y → le y x → x ≡ y) → (a b : Option V) → IsBelowAt le a b → IsBelowAt le b a → a ≡ b
  IsBelowAt-antisym s None None p q = refl
  IsBelowAt-antisym s None (Some y) p q = absurd q
  IsBelowAt-antisym s (Some x) None p q = absurd p
  IsBelowAt-antisym s (Some x) (Some y) p q = ap Some (s x y p q)

module _ {V : Type 0} (le : V → V → Type 0) where
  pub IsBelowUnder-refl : (dead : V → Bool) → ((x : V) → le x x) → (a : Option V) → IsBelowUnder dead le a a
  IsBelowUnder-refl dead r None = tt
  IsBelowUnder-refl dead r (Some x) = inr (r x)

  pub IsBelowUnder-trans : (dead more : V → Bool) → ((x y z : V) → le x y → le y z → le x z)
      → ((x y : V) → more y ≡ true → le x y → more x ≡ true) → ((x : V) → dead x ≡ true → more x ≡ true)
      → (a b c : Option V) → IsBelowUnder dead le a b → IsBelowUnder more le b c → IsBelowUnder more le a c
  IsBelowUnder-trans dead more t down grows None b c p q = tt
  IsBelowUnder-trans dead more t down grows (Some x) None None p q = grows x p
  IsBelowUnder-trans dead more t down grows (Some x) None (Some z) p q = inl (grows x p)
  IsBelowUnder-trans dead more t down grows (Some x) (Some y) None (inl d) q = grows x d
  IsBelowUnder-trans dead more t down grows (Some x) (Some y) None (inr l) q = down x y q l
  IsBelowUnder-trans dead more t down grows (Some x) (Some y) (Some z) (inl d) q = inl (grows x d)
  IsBelowUnder-trans dead more t down grows (Some x) (Some y) (Some z) (inr l) (inl d) = inl (down x y d l)
  IsBelowUnder-trans dead more t down grows (Some x) (Some y) (Some z) (inr l) (inr m) = inr (t x y z l m)

  -- if the first is alive, it is below the second
  pub IsBelowUnder-alive : (dead : V → Bool) (a b : Option V) → ((x : V) → a ≡ Some x → dead x ≡ false) → IsBelowUnder dead le a b →
      IsBelowAt le a b
  IsBelowUnder-alive dead None b h p = tt
  IsBelowUnder-alive dead (Some x) None h p = let e : dead x ≡ false = h x refl in absurd (cc)
  IsBelowUnder-alive dead (Some x) (Some y) h (inl d) = let e : dead x ≡ false = h x refl in absurd (cc)
  IsBelowUnder-alive dead (Some x) (Some y) h (inr l) = l

  -- if nothing dies
  pub IsBelowAt-from_under : (a b : Option V) → IsBelowUnder (λ _. false) le a b → IsBelowAt le a b
  IsBelowAt-from_under a b p = IsBelowUnder-alive (λ _. false) a b (λ x e. refl) p

  pub IsBelowUnder-from_at : (dead : V → Bool) (a b : Option V) → IsBelowAt le a b → IsBelowUnder dead le a b
  IsBelowUnder-from_at dead None b p = tt
  IsBelowUnder-from_at dead (Some x) None p = absurd p
  IsBelowUnder-from_at dead (Some x) (Some y) p = inr p
