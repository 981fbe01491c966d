-- The order of a value that may be missing: `Nothing` is below every value (our own form).
use Rattle.std.specs.Prelude.{◌≡◌, ◌⊎◌}
use Rattle.std.proofs.Common.{ap, refl, inl, inr}
use Rattle.itip_join.specs.declared.lift.Lift.{Lift}
use Rattle.itip_join.specs.declared.lift.Lift.TheVariants.{Nothing, Known}

abbrev pub IsLiftedBelow : {T : Type 0} → (T → T → Type 0) → Lift T → Lift T → Type 0
IsLiftedBelow le Nothing y = Unit {0}
IsLiftedBelow le (Known x) Nothing = ⊥
IsLiftedBelow le (Known x) (Known y) = le x y

module _ {T : Type 0} (le : T → T → Type 0) where
  pub IsLiftedBelow-refl : ((x : T) → le x x) → (x : Lift T) → IsLiftedBelow le x x
  IsLiftedBelow-refl r Nothing = tt
  IsLiftedBelow-refl r (Known x) = r x

  pub IsLiftedBelow-trans : ((x y z : T) → le x y → le y z → le x z) → (x y z : Lift T) → IsLiftedBelow le x y → IsLiftedBelow le y z →
      IsLiftedBelow le x z
  IsLiftedBelow-trans t Nothing y z p q = tt
  IsLiftedBelow-trans t (Known x) Nothing z p q = absurd p
  IsLiftedBelow-trans t (Known x) (Known y) Nothing p q = absurd q
  IsLiftedBelow-trans t (Known x) (Known y) (Known z) p q = t x y z p q

  pub IsLiftedBelow-antisym : ((x y : T) → le x y → le y x → x ≡ y) → (x y : Lift T) → IsLiftedBelow le x y → IsLiftedBelow le y x → x ≡ y
  IsLiftedBelow-antisym a Nothing Nothing p q = refl
  IsLiftedBelow-antisym a Nothing (Known y) p q = absurd q
  IsLiftedBelow-antisym a (Known x) Nothing p q = absurd p
  IsLiftedBelow-antisym a (Known x) (Known y) p q = ap Known (a x y p q)

  pub IsLiftedBelow-comparable : ((x y : T) → le x y ⊎ le y x) → (x y : Lift T) → IsLiftedBelow le x y ⊎ IsLiftedBelow le y x
  IsLiftedBelow-comparable c Nothing y = inl tt
  IsLiftedBelow-comparable c (Known x) Nothing = inr tt
  IsLiftedBelow-comparable c (Known x) (Known y) = c x y
