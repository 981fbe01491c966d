-- The order of values that a comparison ranks: x is up to y if it is not greater (our own form).
use Rattle.std.specs.Prelude.{◌≡◌, false, true, ◌⊎◌, Option, Some, None}
use Rattle.std.proofs.Common.{sym, ◌∙◌, ap, refl, inl, inr}
use Rattle.std.specs.Ordering.{is_gt, is_lt, ordering_reverse}
use Rattle.std.specs.Option.{option_cmp}
use Rattle.std.specs.Cmp.{IsTotalOrder, tied_itself, upto, alike_right}
use Rattle.std.specs.declared.cmp.Ordering.{Ordering}
use Rattle.std.specs.declared.cmp.Ordering.TheVariants.{Less, Equal, Greater}

abbrev pub IsUpTo : {T : Type 0} → (T → T → Ordering) → T → T → Type 0
IsUpTo cmp x y = is_gt (cmp x y) ≡ false

module _ {T : Type 0} {cmp : T → T → Ordering} (total : IsTotalOrder cmp) where
  pub IsUpTo-refl : (x : T) → IsUpTo cmp x x
  IsUpTo-refl x = ap is_gt (tied_itself total x)

  pub IsUpTo-trans : (x y z : T) → IsUpTo cmp x y → IsUpTo cmp y z → IsUpTo cmp x z
  IsUpTo-trans x y z p q = upto total x y z p q

  tie : (r s : Ordering) → r ≡ ordering_reverse s → is_gt r ≡ false → is_gt s ≡ false → r ≡ Equal
  tie Less Less e p q = absurd (cc)
  tie Less Equal e p q = absurd (cc)
  tie Less Greater e p q = absurd (cc)
  tie Equal s e p q = refl
  tie Greater s e p q = absurd (cc)

  pub IsUpTo-tie : (x y : T) → IsUpTo cmp x y → IsUpTo cmp y x → cmp x y ≡ Equal
  IsUpTo-tie x y p q = tie (cmp x y) (cmp y x) (total.antisymm x y) p q

  either : (r s : Ordering) → r ≡ ordering_reverse s → (is_gt r ≡ false) ⊎ (is_gt s ≡ false)
  either Less s e = inl refl
  either Equal s e = inl refl
  either Greater Less e = inr refl
  either Greater Equal e = absurd (cc)
  either Greater Greater e = absurd (cc)

  pub IsUpTo-comparable : (x y : T) → IsUpTo cmp x y ⊎ IsUpTo cmp y x
  IsUpTo-comparable x y = either (cmp x y) (cmp y x) (total.antisymm x y)

  -- if x is up to y and y is less than z, x is less than z; and so it is if x is less than y and y is up to z
  pub less_after : (x y z : T) → IsUpTo cmp x y → cmp y z ≡ Less → cmp x z ≡ Less
  less_after x y z p q = by (cmp x y) refl p
    where
      by : (r : Ordering) → cmp x y ≡ r → is_gt r ≡ false → cmp x z ≡ Less
      by Less e h = total.trans x y z e q
      by Equal e h = total.congr x y z e ∙ q
      by Greater e h = absurd (cc)

  pub less_before : (x y z : T) → cmp x y ≡ Less → IsUpTo cmp y z → cmp x z ≡ Less
  less_before x y z p q = by (cmp y z) refl q
    where
      by : (r : Ordering) → cmp y z ≡ r → is_gt r ≡ false → cmp x z ≡ Less
      by Less e h = total.trans x y z p e
      by Equal e h = sym (alike_right total y z x e) ∙ p
      by Greater e h = absurd (cc)

  is_less : (r : Ordering) → is_lt r ≡ true → r ≡ Less
  is_less Less e = refl
  is_less Equal e = absurd (cc)
  is_less Greater e = absurd (cc)

  -- the same two as a test: what a guard that kills what is less than itself has to prove
  pub is_lt-below : (x y z : T) → is_lt (cmp y z) ≡ true → IsUpTo cmp x y → is_lt (cmp x z) ≡ true
  is_lt-below x y z l p = ap is_lt (less_after x y z p (is_less (cmp y z) l))

  pub is_lt-above : (x y z : T) → IsUpTo cmp y z → is_lt (cmp x y) ≡ true → is_lt (cmp x z) ≡ true
  is_lt-above x y z p l = ap is_lt (less_before x y z (is_less (cmp x y) l) p)

-- if an order tells all values apart, so does the order in which `None` comes before them
pub exact_option : {T : Type 0} (cmp : T → T → Ordering) → ((x y : T) → cmp x y ≡ Equal → x ≡ y) → (a b : Option T) →
    option_cmp cmp a b ≡ Equal → a ≡ b
exact_option cmp exact None None e = refl
exact_option cmp exact None (Some y) e = absurd (cc)
exact_option cmp exact (Some x) None e = absurd (cc)
exact_option cmp exact (Some x) (Some y) e = ap Some (exact x y e)
