-- What is put into a map, key by key.
use Rattle.std.proofs.Common.{◌≡◌, sym, ◌∙◌, ap, subst, refl, Bool, true, false, ◌||◌, List, [], ◌∷◌, ◌++◌, Some, None, inl, inr}
use Rattle.std.specs.Prelude.{cond, Option, ◌⊎◌}
use Rattle.std.specs.Ordering.{is_eq}
use Rattle.std.specs.Cmp.{IsTotalOrder, eq_by_cmp_equiv, tied_itself}
use Rattle.std.specs.declared.cmp.Ordering.{Ordering}
use Rattle.itip_join.specs.Bounds.{IsJoinOf}
use Rattle.itip_join.specs.Optional.{IsBelowAt, IsBelowAt-refl, IsBelowUnder, alive_part}
use Rattle.itip_join.specs.Changes.{before, has_key, is_listed}

-- ---- two values at one key
module _ {V : Type 0} (le : V → V → Type 0) where
  pub join_with_none : ((x : V) → le x x) → (w : V) → IsJoinOf (IsBelowAt le) None (Some w) (Some w)
  join_with_none r w = record { above_first = tt; above_second = r w; least = λ d a b. b }

  pub join_with_nothing : ((x : V) → le x x) → (a : Option V) → IsJoinOf (IsBelowAt le) a None a
  join_with_nothing r a = record { above_first = IsBelowAt-refl le r a; above_second = tt; least = λ d p q. p }

  least_at : (x y z : V) → ((b : V) → le x b → le y b → le z b) → (d : Option V) → IsBelowAt le (Some x) d → IsBelowAt le (Some y) d →
      IsBelowAt le (Some z) d
  least_at x y z l None p q = absurd p
  least_at x y z l (Some b) p q = l b p q

  pub join_of_two : (x y z : V) → le x z → le y z → ((b : V) → le x b → le y b → le z b) →
      IsJoinOf (IsBelowAt le) (Some x) (Some y) (Some z)
  join_of_two x y z a b l = record { above_first = a; above_second = b; least = least_at x y z l }

pub alive_some : {V : Type 0} (dead : V → Bool) (w : V) → dead w ≡ false → alive_part dead (Some w) ≡ Some w
alive_some dead w e = ap (λ b. cond b None (Some w)) e

-- ---- keys
or_false : (b : Bool) → (b || false) ≡ (false || b)
or_false true = refl
or_false false = refl

module _ {K : Type 0} (cmp : K → K → Ordering) where
  pub is_listed_push : (q : K) (ks : List K) (k : K) → is_listed cmp q (ks ++ k ∷ []) ≡ (is_listed cmp q ks || is_eq (cmp k q))
  is_listed_push q [] k = or_false (is_eq (cmp k q))
  is_listed_push q (r ∷ ks) k =
      elim (is_eq (cmp r q)) as (λ b. (b || is_listed cmp q (ks ++ k ∷ [])) ≡ ((b || is_listed cmp q ks) || is_eq (cmp k q))) [
        | true ↦ refl
        | false ↦ is_listed_push q ks k
      ]

module _ {K : Type 0} {cmp : K → K → Ordering} (total : IsTotalOrder cmp) where
  pub flipped : (x y : K) → is_eq (cmp x y) ≡ false → is_eq (cmp y x) ≡ false
  flipped x y e = (eq_by_cmp_equiv total).symm y x ∙ e

  pub itself : (x : K) → is_eq (cmp x x) ≡ true
  itself x = ap is_eq (tied_itself total x)

-- ---- pairs that are put back
module _ {K V : Type 0} (cmp : K → K → Ordering) where
  pub before_push : (q : K) (o : Option V) (ps : List (K × V)) (p : K × V) →
      before cmp q o (ps ++ p ∷ []) ≡ before cmp q (cond (is_eq (cmp p.0 q)) (Some p.1) o) ps
  before_push q o [] p = refl
  before_push q o (r ∷ ps) p = ap (λ (x : Option V). cond (is_eq (cmp r.0 q)) (Some r.1) x) (before_push q o ps p)

  pub has_key_push : (q : K) (ps : List (K × V)) (p : K × V) → has_key cmp q (ps ++ p ∷ []) ≡ (has_key cmp q ps || is_eq (cmp p.0 q))
  has_key_push q [] p = or_false (is_eq (cmp p.0 q))
  has_key_push q (r ∷ ps) p =
      elim (is_eq (cmp r.0 q)) as (λ b. (b || has_key cmp q (ps ++ p ∷ [])) ≡ ((b || has_key cmp q ps) || is_eq (cmp p.0 q))) [
        | true ↦ refl
        | false ↦ has_key_push q ps p
      ]

-- a map with the pair (k', v') put in, where k' is k and v' is v
module _ {K V : Type 0} {cmp : K → K → Ordering} (total : IsTotalOrder cmp) (o o' : K → Option V) {k k' : K} (v' : V)
    (put : (q : K) → o' q ≡ cond (is_eq (cmp k' q)) (Some v') (o q)) (same : k' ≡ k) where
  pub put_here : {v : V} → v' ≡ v → o' k ≡ Some v
  put_here e = put k ∙ ap (λ x. cond (is_eq (cmp x k)) (Some v') (o k)) same ∙ ap (λ b. cond b (Some v') (o k)) (itself total k) ∙ ap Some e

  pub put_apart : (q : K) → is_eq (cmp q k) ≡ false → o' q ≡ o q
  put_apart q e = put q ∙ ap (λ x. cond (is_eq (cmp x q)) (Some v') (o q)) same ∙ ap (λ b. cond b (Some v') (o q)) (flipped total q k e)

-- ---- below, at one key
module _ {V : Type 0} (le : V → V → Type 0) (dead : V → Bool) where
  pub below_dead : {a : Option V} (b : Option V) {x : V} → a ≡ Some x → dead x ≡ true → IsBelowUnder dead le a b
  below_dead b {x} some d = subst (λ (o : Option V). IsBelowUnder dead le o b) (sym some) (at b)
    where
      at : (b : Option V) → IsBelowUnder dead le (Some x) b
      at None = d
      at (Some y) = inl d

  pub below_both : {a b : Option V} {x y : V} → a ≡ Some x → b ≡ Some y → le x y → IsBelowUnder dead le a b
  below_both {b = b} {x = x} some e l =
      subst (λ (o : Option V). IsBelowUnder dead le o b) (sym some)
      (subst (λ (o : Option V). IsBelowUnder dead le (Some x) o) (sym e) (inr l))

  pub not_below_none : {a b : Option V} {x : V} → a ≡ Some x → dead x ≡ false → b ≡ None → IsBelowUnder dead le a b → ⊥
  not_below_none {b = b} {x = x} some alive none p =
      at (subst (λ (o : Option V). IsBelowUnder dead le (Some x) o) none (subst (λ (o : Option V). IsBelowUnder dead le o b) some p))
    where
      at : dead x ≡ true → ⊥
      at d = cc

  pub not_below : {a b : Option V} {x y : V} → a ≡ Some x → dead x ≡ false → b ≡ Some y → (le x y → ⊥) → IsBelowUnder dead le a b → ⊥
  not_below {b = b} {x = x} {y = y} some alive e n p =
      at (subst (λ (o : Option V). IsBelowUnder dead le (Some x) o) e (subst (λ (o : Option V). IsBelowUnder dead le o b) some p))
    where
      at : (dead x ≡ true) ⊎ le x y → ⊥
      at (inl d) = cc
      at (inr l) = n l
