-- Whether two keys are one can be told.
use Rattle.std.proofs.Common.{◌≡◌, ℕ, List, refl, sym, ◌∙◌, ap, ◌⊎◌, inl, inr}
use Rattle.std.specs.Prelude.{Option, Some, None, unwrap_or, cond, nat_eq}
use Rattle.std.specs.Cmp.{IsTotalOrder}
use Rattle.std.specs.declared.cmp.Ordering.{Ordering}
use Rattle.std.specs.declared.cmp.Ordering.TheVariants.{Less, Equal, Greater}
use Rattle.std.proofs.lemmas.Cmp.{nat_cmp_total, nat_list_cmp_total, tied_itself}
use Rattle.std.proofs.lemmas.Map.Lookups.{CmpEqualImpliesEq, exact_unsigned, exact_bytes}
use Rattle.itip_items.specs.declared.key.Key.{Key}
use Rattle.itip_items.specs.declared.key.Key.TheVariants.{Series, Instance, Range, Answer, Refresh}
use Rattle.itip_items.specs.KeyParts.{uid_of, rank_of, instance_of, attendee_of}
use Rattle.itip_moment.specs.declared.moment.Moment.{Moment}
use Rattle.itip_moment.specs.OrderLaws.{moment_total}
use Rattle.itip_moment.proofs.Same.{moment_equal}

-- two values can be told to be one or two
abbrev pub Told : {A : Type 0} → A → A → Type 0
Told a b = (a ≡ b) ⊎ (a ≡ b → ⊥)

pub told_by_cmp : {A : Type 0} {R : A → A → Ordering} → IsTotalOrder R → CmpEqualImpliesEq R → (a b : A) → Told a b
told_by_cmp {A} {R} total exact a b =
    elim (R a b) as (λ o. R a b ≡ o → Told a b) [
      | Less ↦ λ e. inr (λ same. let x : Less ≡ Equal = sym e ∙ ap (R a) (sym same) ∙ tied_itself total a in cc)
      | Equal ↦ λ e. inl (exact a b e)
      | Greater ↦ λ e. inr (λ same. let x : Greater ≡ Equal = sym e ∙ ap (R a) (sym same) ∙ tied_itself total a in cc)
    ] refl

pub told_bytes : (a b : List ℕ) → Told a b
told_bytes = told_by_cmp nat_list_cmp_total exact_bytes

pub told_moments : (a b : Moment) → Told a b
told_moments = told_by_cmp moment_total moment_equal

pub told_options : {A : Type 0} → ((a b : A) → Told a b) → (a b : Option A) → Told a b
told_options told None None = inl refl
told_options told None (Some b) = inr (λ same. cc)
told_options told (Some a) None = inr (λ same. cc)
told_options told (Some a) (Some b) =
    elim (told a b) [
      | inl same ↦ inl (ap Some same)
      | inr other ↦ inr (λ same. other (ap (λ o. unwrap_or o a) same))
    ]

of_moment : Option Moment → (Moment → Key) → List ℕ → Key
of_moment None key uid = Series uid
of_moment (Some id) key uid = key id

-- the key that has these parts
of_parts : ℕ → List ℕ → Option Moment → List ℕ → Key
of_parts rank uid id attendee =
    cond (nat_eq rank 0) (Series uid)
    (cond (nat_eq rank 1) (of_moment id (Instance uid) uid)
    (cond (nat_eq rank 2) (of_moment id (Range uid) uid)
    (cond (nat_eq rank 3) (Answer uid id attendee) (Refresh uid id attendee))))

parts_back : (a : Key) → of_parts (rank_of a) (uid_of a) (instance_of a) (attendee_of a) ≡ a
unfolding of_parts of_moment
parts_back (Series u) = refl
parts_back (Instance u i) = refl
parts_back (Range u i) = refl
parts_back (Answer u i a) = refl
parts_back (Refresh u i a) = refl

-- keys whose parts are equal are one key
pub from_parts : (a b : Key) → uid_of a ≡ uid_of b → rank_of a ≡ rank_of b → instance_of a ≡ instance_of b →
    attendee_of a ≡ attendee_of b → a ≡ b
from_parts a b p r m t = sym (parts_back a) ∙ (λ x. of_parts (r x) (p x) (m x) (t x)) ∙ parts_back b

pub told_keys : (a b : Key) → Told a b
told_keys a b =
    elim (told_by_cmp nat_cmp_total exact_unsigned (rank_of a) (rank_of b)) [
      | inr other ↦ inr (λ same. other (ap rank_of same))
      | inl kind ↦ elim (told_bytes (uid_of a) (uid_of b)) [
        | inr other ↦ inr (λ same. other (ap uid_of same))
        | inl uid ↦ elim (told_options told_moments (instance_of a) (instance_of b)) [
          | inr other ↦ inr (λ same. other (ap instance_of same))
          | inl moment ↦ elim (told_bytes (attendee_of a) (attendee_of b)) [
            | inr other ↦ inr (λ same. other (ap attendee_of same))
            | inl attendee ↦ inl (from_parts a b uid kind moment attendee)
          ]
        ]
      ]
    ]
