-- A join under a guard, at one key: the values joined, and what is dead dropped.
use Rattle.std.proofs.Common.{◌≡◌, sym, ◌∙◌, ap, subst, refl, Bool, true, false, List, [], ◌∷◌, Some, None, inl, inr}
use Rattle.std.specs.Prelude.{cond, Option, ◌⊎◌, not, ◌&&◌}
use Rattle.std.specs.Map.{keys_of}
use Rattle.std.specs.Ordering.{is_eq}
use Rattle.std.specs.Cmp.{IsTotalOrder, Equal-is, eq_by_cmp_equiv, tied_itself}
use Rattle.std.specs.List.Sorted.{IsStrictlySortedBy}
use Rattle.std.specs.declared.cmp.Ordering.{Ordering}
use Rattle.std.specs.declared.cmp.Ordering.TheVariants.{Equal}
use Rattle.std.proofs.lemmas.Map.{lookup-none}
use Rattle.std.proofs.lemmas.Map.Entries.{none_past_head}
use Rattle.std.proofs.lemmas.Map.Keys.{IsDistinct-from_sorted, sorted_tail}
use Rattle.itip_join.specs.Bounds.{IsJoinOf}
use Rattle.itip_join.specs.Optional.{IsBelowAt, IsBelowAt-refl, IsBelowAt-antisym, IsBelowUnder, alive_part}
use Rattle.itip_join.specs.KeyByKey.{value_at, all_alive, kept}

module _ {V : Type 0} (le : V → V → Type 0) where
  comparable_at : ((x y : V) → le x y ⊎ le y x) → (a b : Option V) → IsBelowAt le a b ⊎ IsBelowAt le b a
  comparable_at c None b = inl tt
  comparable_at c (Some x) None = inr tt
  comparable_at c (Some x) (Some y) = c x y

  -- in a chain, the join of two is one of them
  join_is_one : ((x : V) → le x x) → ((x y : V) → le x y → le y x → x ≡ y) → ((x y : V) → le x y ⊎ le y x)
      → (a b c : Option V) → IsJoinOf (IsBelowAt le) a b c → (c ≡ a) ⊎ (c ≡ b)
  join_is_one r s chain a b c j = by (comparable_at chain a b)
    where
      by : IsBelowAt le a b ⊎ IsBelowAt le b a → (c ≡ a) ⊎ (c ≡ b)
      by (inl p) = inr (IsBelowAt-antisym le s c b (j.least b p (IsBelowAt-refl le r b)) j.above_second)
      by (inr p) = inl (IsBelowAt-antisym le s c a (j.least a (IsBelowAt-refl le r a) p) j.above_first)

  module _ (dead : V → Bool) (down : (x y : V) → dead y ≡ true → le x y → dead x ≡ true) where
    -- what is below a value is below it or dead, once the dead are dropped
    kept_above : (x z : V) → le x z → IsBelowUnder dead le (Some x) (alive_part dead (Some z))
    kept_above x z l = elim (dead z) as (λ b. dead z ≡ b → IsBelowUnder dead le (Some x) (cond b None (Some z))) [
      | true ↦ λ d. down x z d l
      | false ↦ λ d. inr l
    ] refl

    pub above_first_under : (a b c : Option V) → IsJoinOf (IsBelowAt le) a (alive_part dead b) c →
        IsBelowUnder dead le a (alive_part dead c)
    above_first_under a b c j = by a c j.above_first
      where
        by : (a c : Option V) → IsBelowAt le a c → IsBelowUnder dead le a (alive_part dead c)
        by None c p = tt
        by (Some x) None p = absurd p
        by (Some x) (Some z) p = kept_above x z p

    pub above_second_under : (a b c : Option V) → IsJoinOf (IsBelowAt le) a (alive_part dead b) c →
        IsBelowUnder dead le b (alive_part dead c)
    above_second_under a b c j = by b c j.above_second
      where
        dead_below : (y : V) (c : Option V) → dead y ≡ true → IsBelowUnder dead le (Some y) c
        dead_below y None d = d
        dead_below y (Some z) d = inl d

        at : (y : V) (c : Option V) → IsBelowAt le (Some y) c → IsBelowUnder dead le (Some y) (alive_part dead c)
        at y None p = absurd p
        at y (Some z) p = kept_above y z p

        by : (b c : Option V) → IsBelowAt le (alive_part dead b) c → IsBelowUnder dead le b (alive_part dead c)
        by None c p = tt
        by (Some y) c p = elim (dead y) as (λ t. dead y ≡ t → IsBelowAt le (cond t None (Some y)) c →
            IsBelowUnder dead le (Some y) (alive_part dead c)) [
              | true ↦ λ d q. dead_below y (alive_part dead c) d
              | false ↦ λ d q. at y c q
            ] refl p

  -- what is kept is below what all of it is below
  alive_below : (dead more : V → Bool) (a d : Option V) → IsBelowUnder more le a d → IsBelowUnder more le (alive_part dead a) d
  alive_below dead more None d p = tt
  alive_below dead more (Some x) d p = elim (dead x) as (λ b. IsBelowUnder more le (cond b None (Some x)) d) [ true ↦ tt | false ↦ p ]

  pub least_under : ((x : V) → le x x) → ((x y : V) → le x y → le y x → x ≡ y) → ((x y : V) → le x y ⊎ le y x)
      → (dead more : V → Bool) (a b c d : Option V) → IsJoinOf (IsBelowAt le) a (alive_part dead b) c
      → IsBelowUnder more le a d → IsBelowUnder more le b d → IsBelowUnder more le (alive_part dead c) d
  least_under r s chain dead more a b c d j p q = by (join_is_one r s chain a (alive_part dead b) c j)
    where
      by : (c ≡ a) ⊎ (c ≡ alive_part dead b) → IsBelowUnder more le (alive_part dead c) d
      by (inl e) = subst (λ (o : Option V). IsBelowUnder more le (alive_part dead o) d) (sym e) (alive_below dead more a d p)
      by (inr e) = subst (λ (o : Option V). IsBelowUnder more le (alive_part dead o) d) (sym e)
          (alive_below dead more (alive_part dead b) d (alive_below dead more b d q))

-- ---- the entries that are kept
module _ {K V : Type 0} (dead : K → V → Bool) where
  both_true : (a b : Bool) → a ≡ true → b ≡ true → (a && b) ≡ true
  both_true true b p q = q
  both_true false b p q = absurd (cc)

  pub all_alive-kept : (es : List (K × V)) → all_alive dead (kept dead es) ≡ true
  all_alive-kept [] = refl
  all_alive-kept (e ∷ es) =
      elim (dead e.0 e.1) as (λ b. dead e.0 e.1 ≡ b → all_alive dead (cond (not b) (e ∷ kept dead es) (kept dead es)) ≡ true) [
        | true ↦ λ d. all_alive-kept es
        | false ↦ λ d. both_true (not (dead e.0 e.1)) (all_alive dead (kept dead es)) (ap not d) (all_alive-kept es)
      ] refl

  pub value_at-kept : {cmp : K → K → Ordering} → IsTotalOrder cmp → ((x y : K) → cmp x y ≡ Equal → x ≡ y) → (es : List (K × V)) →
      IsStrictlySortedBy cmp (keys_of es)
      → (q : K) → value_at cmp (kept dead es) q ≡ alive_part (dead q) (value_at cmp es q)
  value_at-kept total exact [] s q = refl
  value_at-kept {cmp} total exact (e ∷ es) s q =
      let rest = value_at-kept total exact es (sorted_tail cmp e.0 (keys_of es) s) q in
      elim (is_eq (cmp q e.0)) as (λ t. is_eq (cmp q e.0) ≡ t
      → value_at cmp (kept dead (e ∷ es)) q ≡ alive_part (dead q) (cond t (Some e.1) (value_at cmp es q))) [
        | true ↦ λ k.
            let none : value_at cmp es q ≡ None =
            lookup-none _ es (none_past_head (eq_by_cmp_equiv total) q e es (IsDistinct-from_sorted cmp (keys_of (e ∷ es)) s) k) in
            let same : dead q e.1 ≡ dead e.0 e.1 = ap (λ x. dead x e.1) (exact q e.0 ((Equal-is (cmp q e.0)).0 k)) in
            elim (dead e.0 e.1) as (λ b. dead e.0 e.1 ≡ b →
            value_at cmp (cond (not b) (e ∷ kept dead es) (kept dead es)) q ≡ cond (dead q e.1) None (Some e.1)) [
              | true ↦ λ d. rest ∙ ap (alive_part (dead q)) none ∙ sym (ap (λ b. cond b None (Some e.1)) (same ∙ d))
              | false ↦ λ d. ap (λ b. cond b (Some e.1) (value_at cmp (kept dead es) q)) k ∙
                  sym (ap (λ b. cond b None (Some e.1)) (same ∙ d))
            ] refl
        | false ↦ λ k. elim (dead e.0 e.1) as (λ b. value_at cmp (cond (not b) (e ∷ kept dead es) (kept dead es)) q ≡ alive_part (dead q)
            (value_at cmp es q)) [
              | true ↦ rest
              | false ↦ ap (λ b. cond b (Some e.1) (value_at cmp (kept dead es) q)) k ∙ rest
            ]
      ] refl

-- if nothing dies, all is kept
pub alive_part_all : {V : Type 0} (o : Option V) → alive_part (λ _. false) o ≡ o
alive_part_all None = refl
alive_part_all (Some x) = refl

-- ---- a map in which nothing is dead
module _ {V : Type 0} (dead : V → Bool) where
  pub alive_itself : (o : Option V) → ((x : V) → o ≡ Some x → dead x ≡ false) → alive_part dead o ≡ o
  alive_itself None h = refl
  alive_itself (Some x) h = ap (λ b. cond b None (Some x)) (h x refl)

  alive_part_alive : (o : Option V) (x : V) → alive_part dead o ≡ Some x → dead x ≡ false
  alive_part_alive None x e = absurd (cc)
  alive_part_alive (Some y) x e = elim (dead y) as (λ b. dead y ≡ b → cond b None (Some y) ≡ Some x → dead x ≡ false) [
    | true ↦ λ d f. absurd (cc)
    | false ↦ λ d f. let s : y ≡ x = cc in ap dead (sym s) ∙ d
  ] refl e

  -- in a chain, what is alive joined with what is alive is alive
  pub join_alive_at : (le : V → V → Type 0) → ((x : V) → le x x) → ((x y : V) → le x y → le y x → x ≡ y) → ((x y : V) → le x y ⊎ le y x)
      → (a b c : Option V) → IsJoinOf (IsBelowAt le) a (alive_part dead b) c → ((x : V) → a ≡ Some x → dead x ≡ false) → (x : V) →
      c ≡ Some x → dead x ≡ false
  join_alive_at le r s chain a b c j h x e = by (join_is_one le r s chain a (alive_part dead b) c j)
    where
      by : (c ≡ a) ⊎ (c ≡ alive_part dead b) → dead x ≡ false
      by (inl f) = h x (sym f ∙ e)
      by (inr f) = alive_part_alive b x (sym f ∙ e)

module _ {K V : Type 0} {cmp : K → K → Ordering} (total : IsTotalOrder cmp) (dead : K → V → Bool) where
  all_true : (a b : Bool) → a ≡ true → b ≡ true → (a && b) ≡ true
  all_true true b p q = q
  all_true false b p q = absurd (cc)

  pub all_alive-from_values : (es : List (K × V)) → IsStrictlySortedBy cmp (keys_of es) →
      ((q : K) (x : V) → value_at cmp es q ≡ Some x → dead q x ≡ false) → all_alive dead es ≡ true
  all_alive-from_values [] s h = refl
  all_alive-from_values (e ∷ es) s h = all_true (not (dead e.0 e.1)) (all_alive dead es)
      (ap not (h e.0 e.1 (ap (λ b. cond b (Some e.1) (value_at cmp es e.0)) (ap is_eq (tied_itself total e.0)))))
      (all_alive-from_values es (sorted_tail cmp e.0 (keys_of es) s) (λ q x f. h q x (later q x f)))
    where
      later : (q : K) (x : V) → value_at cmp es q ≡ Some x → value_at cmp (e ∷ es) q ≡ Some x
      later q x f = elim (is_eq (cmp q e.0)) as (λ t. is_eq (cmp q e.0) ≡ t → cond t (Some e.1) (value_at cmp es q) ≡ Some x) [
        | true ↦ λ k. let none : value_at cmp es q ≡ None =
            lookup-none _ es (none_past_head (eq_by_cmp_equiv total) q e es (IsDistinct-from_sorted cmp (keys_of (e ∷ es)) s) k) in
            absurd (cc)
        | false ↦ λ k. f
      ] refl

-- ---- what is dead is dropped
module _ {V : Type 0} (le : V → V → Type 0) (dead : V → Bool) (r : (x : V) → le x x) where
  pub below_kept : (a : Option V) → IsBelowUnder dead le a (alive_part dead a)
  below_kept None = tt
  below_kept (Some x) =
      elim (dead x) as (λ b. dead x ≡ b → IsBelowUnder dead le (Some x) (cond b None (Some x))) [ true ↦ λ d. d | false ↦ λ d. inr (r x) ]
      refl

  pub kept_below : (a : Option V) → IsBelowUnder dead le (alive_part dead a) a
  kept_below None = tt
  kept_below (Some x) = elim (dead x) as (λ b. IsBelowUnder dead le (cond b None (Some x)) (Some x)) [ true ↦ tt | false ↦ inr (r x) ]
