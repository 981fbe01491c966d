-- Entries found by their keys, and the join of two maps key by key.
use Rattle.std.proofs.Common.{◌≡◌, sym, ◌∙◌, ap, subst, refl, true, false, List, [], ◌∷◌, Option, Some, None}
use Rattle.std.specs.Prelude.{cond, not, filter}
use Rattle.std.specs.List.{AllByRecursion}
use Rattle.std.specs.Map.{keys_of}
use Rattle.std.specs.List.Sorted.{IsStrictlySortedBy}
use Rattle.std.specs.Ordering.{is_eq}
use Rattle.std.specs.Cmp.{IsTotalOrder, Equal-is, eq_by_cmp_equiv, tied_itself}
use Rattle.std.specs.declared.cmp.Ordering.{Ordering}
use Rattle.std.specs.declared.cmp.Ordering.TheVariants.{Equal}
use Rattle.std.proofs.lemmas.Map.{lookup-none}
use Rattle.std.proofs.lemmas.Map.Entries.{none_past_head}
use Rattle.std.proofs.lemmas.Map.Keys.{IsDistinct-from_sorted, sorted_tail}
use Rattle.std.proofs.lemmas.List.Kept.{IsStrictlySortedBy-filter}
use Rattle.itip_join.specs.Bounds.{IsJoinOf}
use Rattle.itip_join.specs.Optional.{IsBelowAt}
use Rattle.itip_join.specs.KeyByKey.{value_at, IsMapBelow}
use Rattle.itip_state.proofs.Members.{by_bool}

module _ {K : Type 0} {cmp : K → K → Ordering} (total : IsTotalOrder cmp) (exact : (x y : K) → cmp x y ≡ Equal → x ≡ y) where
  pub one_key : (q k : K) → is_eq (cmp q k) ≡ true → q ≡ k
  one_key q k e = exact q k ((Equal-is (cmp q k)).0 e)

  pub itself : (q : K) → is_eq (cmp q q) ≡ true
  itself q = ap is_eq (tied_itself total q)

module _ {K V : Type 0} {cmp : K → K → Ordering} (total : IsTotalOrder cmp) (exact : (x y : K) → cmp x y ≡ Equal → x ≡ y) where
  pub at_head : (e : K × V) (es : List (K × V)) → value_at cmp (e ∷ es) e.0 ≡ Some e.1
  at_head e es = ap (λ b. cond b (Some e.1) (value_at cmp es e.0)) (itself total exact e.0)

  pub at_other : (e : K × V) (es : List (K × V)) (q : K) → is_eq (cmp q e.0) ≡ false → value_at cmp (e ∷ es) q ≡ value_at cmp es q
  at_other e es q n = ap (λ b. cond b (Some e.1) (value_at cmp es q)) n

  pub none_in_tail : (e : K × V) (es : List (K × V)) (q : K) → IsStrictlySortedBy cmp (keys_of (e ∷ es)) → is_eq (cmp q e.0) ≡ true →
      value_at cmp es q ≡ None
  none_in_tail e es q s k =
      lookup-none _ es (none_past_head (eq_by_cmp_equiv total) q e es (IsDistinct-from_sorted cmp (keys_of (e ∷ es)) s) k)

  -- what the tail has at a key, the whole list has there
  pub from_tail : (e : K × V) (es : List (K × V)) (q : K) (v : V) → IsStrictlySortedBy cmp (keys_of (e ∷ es)) →
      value_at cmp es q ≡ Some v → value_at cmp (e ∷ es) q ≡ Some v
  from_tail e es q v s h = by_bool (is_eq (cmp q e.0)) (value_at cmp (e ∷ es) q ≡ Some v)
      (λ k. let n : value_at cmp es q ≡ None = none_in_tail e es q s k in let x : None ≡ Some v = sym n ∙ h in absurd (cc))
      (λ k. at_other e es q k ∙ h)

  -- what holds at each key holds of each entry
  pub all_from_values : (P : K × V → Type 0) (es : List (K × V)) → IsStrictlySortedBy cmp (keys_of es) →
      ((q : K) (v : V) → value_at cmp es q ≡ Some v → P (q, v)) → AllByRecursion P es
  all_from_values P [] s h = tt
  all_from_values P (e ∷ es) s h =
      (h e.0 e.1 (at_head e es), all_from_values P es (sorted_tail cmp e.0 (keys_of es) s) (λ q v f. h q v (from_tail e es q v s f)))

  some_one : (x y : V) → Some x ≡ Some y → x ≡ y
  some_one x y e = cc

  pub value_from_all : (P : K × V → Type 0) (es : List (K × V)) → AllByRecursion P es → (q : K) (v : V) → value_at cmp es q ≡ Some v →
      P (q, v)
  value_from_all P [] a q v h = let x : None ≡ Some v = h in absurd (cc)
  value_from_all P (e ∷ es) a q v h = by_bool (is_eq (cmp q e.0)) (P (q, v))
      (λ k. let same : e.1 ≡ v = some_one e.1 v (sym (ap (λ b. cond b (Some e.1) (value_at cmp es q)) k) ∙ h) in
      let place : e.0 ≡ q = sym (one_key total exact q e.0 k) in
      subst (λ (w : V). P (q, w)) same (subst (λ (k : K). P (k, e.1)) place a.0))
      (λ k. value_from_all P es a.1 q v (sym (at_other e es q k) ∙ h))

  -- ---- a map with another value at a key
  pub raised : K → V → List (K × V) → List (K × V)
  raised q w [] = []
  raised q w (e ∷ es) = (e.0, cond (is_eq (cmp q e.0)) w e.1) ∷ raised q w es

  keys_raised : (q : K) (w : V) (es : List (K × V)) → keys_of (raised q w es) ≡ keys_of es
  unfolding raised
  keys_raised q w [] = refl
  keys_raised q w (e ∷ es) = ap (λ ks. e.0 ∷ ks) (keys_raised q w es)

  raised_here : (q : K) (w v : V) (es : List (K × V)) → value_at cmp es q ≡ Some v → value_at cmp (raised q w es) q ≡ Some w
  unfolding raised
  raised_here q w v [] h = let x : None ≡ Some v = h in absurd (cc)
  raised_here q w v (e ∷ es) h =
      elim (is_eq (cmp q e.0)) as (λ b. cond b (Some e.1) (value_at cmp es q) ≡ Some v →
      cond b (Some (cond b w e.1)) (value_at cmp (raised q w es) q) ≡ Some w) [
        | true ↦ λ f. refl
        | false ↦ λ f. raised_here q w v es f
      ] h

  raised_apart : (q : K) (w : V) (r : K) (es : List (K × V)) → is_eq (cmp r q) ≡ false → value_at cmp (raised q w es) r ≡ value_at cmp es r
  unfolding raised
  raised_apart q w r [] n = refl
  raised_apart q w r (e ∷ es) n =
      by_bool (is_eq (cmp r e.0)) (value_at cmp (raised q w (e ∷ es)) r ≡ value_at cmp (e ∷ es) r)
      (λ k. by_bool (is_eq (cmp q e.0)) (value_at cmp (raised q w (e ∷ es)) r ≡ value_at cmp (e ∷ es) r)
      (λ l. let same : r ≡ q = one_key total exact r e.0 k ∙ sym (one_key total exact q e.0 l) in let x : true ≡ false =
      sym (itself total exact q) ∙ ap (λ y. is_eq (cmp y q)) (sym same) ∙ n in absurd (cc))
      (λ l. ap (λ b. cond b (Some (cond (is_eq (cmp q e.0)) w e.1)) (value_at cmp (raised q w es) r)) k ∙ ap (λ b. Some (cond b w e.1)) l ∙
      sym (ap (λ b. cond b (Some e.1) (value_at cmp es r)) k)))
      (λ k. ap (λ b. cond b (Some (cond (is_eq (cmp q e.0)) w e.1)) (value_at cmp (raised q w es) r)) k ∙ raised_apart q w r es n ∙
      sym (at_other e es r k))

  -- ---- a map without a key
  pub without : K → List (K × V) → List (K × V)
  without q [] = []
  without q (e ∷ es) = cond (is_eq (cmp q e.0)) (without q es) (e ∷ without q es)

  keys_without : (q : K) (es : List (K × V)) → keys_of (without q es) ≡ filter (λ k. not (is_eq (cmp q k))) (keys_of es)
  unfolding without
  keys_without q [] = refl
  keys_without q (e ∷ es) =
      elim (is_eq (cmp q e.0)) as (λ b. keys_of (cond b (without q es) (e ∷ without q es)) ≡ cond (not b) (e.0 ∷
      filter (λ k. not (is_eq (cmp q k))) (keys_of es)) (filter (λ k. not (is_eq (cmp q k))) (keys_of es))) [
        | true ↦ keys_without q es
        | false ↦ ap (λ ks. e.0 ∷ ks) (keys_without q es)
      ]

  without_here : (q : K) (es : List (K × V)) → value_at cmp (without q es) q ≡ None
  unfolding without
  without_here q [] = refl
  without_here q (e ∷ es) =
      elim (is_eq (cmp q e.0)) as (λ b. is_eq (cmp q e.0) ≡ b → value_at cmp (cond b (without q es) (e ∷ without q es)) q ≡ None) [
        | true ↦ λ k. without_here q es
        | false ↦ λ k. at_other e (without q es) q k ∙ without_here q es
      ] refl

  without_apart : (q r : K) (es : List (K × V)) → is_eq (cmp r q) ≡ false → value_at cmp (without q es) r ≡ value_at cmp es r
  unfolding without
  without_apart q r [] n = refl
  without_apart q r (e ∷ es) n =
      elim (is_eq (cmp q e.0)) as (λ b. is_eq (cmp q e.0) ≡ b →
      value_at cmp (cond b (without q es) (e ∷ without q es)) r ≡ value_at cmp (e ∷ es) r) [
        | true ↦ λ k. without_apart q r es n ∙ sym (at_other e es r (ap (λ y. is_eq (cmp r y)) (sym (one_key total exact q e.0 k)) ∙ n))
        | false ↦ λ k. ap (λ o. cond (is_eq (cmp r e.0)) (Some e.1) o) (without_apart q r es n)
      ] refl

  -- ---- the join of two maps, at a key
  module _ (le : V → V → Type 0) (xs ys zs : List (K × V)) (sorted : IsStrictlySortedBy cmp (keys_of zs))
      (above_xs : IsMapBelow cmp le xs zs) (above_ys : IsMapBelow cmp le ys zs)
      (least : (bound : List (K × V)) → IsStrictlySortedBy cmp (keys_of bound) → IsMapBelow cmp le xs bound → IsMapBelow cmp le ys bound →
      IsMapBelow cmp le zs bound) where
    -- at q a map that has o there and the join's values elsewhere is no less than the join
    pub least_at : (q : K) (o : Option V) → IsBelowAt le (value_at cmp xs q) o → IsBelowAt le (value_at cmp ys q) o →
        IsBelowAt le (value_at cmp zs q) o
    least_at q None p r = subst (λ (c : Option V). IsBelowAt le (value_at cmp zs q) c) (without_here q zs)
        (least (without q zs) (subst (IsStrictlySortedBy cmp) (sym (keys_without q zs))
        (IsStrictlySortedBy-filter cmp (λ k. not (is_eq (cmp q k))) (keys_of zs) sorted))
        (bounded xs p above_xs) (bounded ys r above_ys) q)
      where
        bounded : (es : List (K × V)) → IsBelowAt le (value_at cmp es q) None → IsMapBelow cmp le es zs →
            IsMapBelow cmp le es (without q zs)
        bounded es b all k = by_bool (is_eq (cmp k q)) (IsBelowAt le (value_at cmp es k) (value_at cmp (without q zs) k))
            (λ e. subst (λ (k : K). IsBelowAt le (value_at cmp es k) (value_at cmp (without q zs) k)) (sym (one_key total exact k q e))
            (subst (λ (c : Option V). IsBelowAt le (value_at cmp es q) c) (sym (without_here q zs)) b))
            (λ e. subst (λ (c : Option V). IsBelowAt le (value_at cmp es k) c) (sym (without_apart q k zs e)) (all k))
    least_at q (Some w) p r = by_value (value_at cmp zs q) refl
      where
        bounded : (es : List (K × V)) (v : V) → value_at cmp zs q ≡ Some v → IsBelowAt le (value_at cmp es q) (Some w) →
            IsMapBelow cmp le es zs → IsMapBelow cmp le es (raised q w zs)
        bounded es v there b all k = by_bool (is_eq (cmp k q)) (IsBelowAt le (value_at cmp es k) (value_at cmp (raised q w zs) k))
            (λ e. subst (λ (k : K). IsBelowAt le (value_at cmp es k) (value_at cmp (raised q w zs) k)) (sym (one_key total exact k q e))
            (subst (λ (c : Option V). IsBelowAt le (value_at cmp es q) c) (sym (raised_here q w v zs there)) b))
            (λ e. subst (λ (c : Option V). IsBelowAt le (value_at cmp es k) c) (sym (raised_apart q w k zs e)) (all k))

        by_value : (o : Option V) → value_at cmp zs q ≡ o → IsBelowAt le (value_at cmp zs q) (Some w)
        by_value None e = subst (λ (c : Option V). IsBelowAt le c (Some w)) (sym e) tt
        by_value (Some v) e = subst (λ (c : Option V). IsBelowAt le (value_at cmp zs q) c) (raised_here q w v zs e)
            (least (raised q w zs) (subst (IsStrictlySortedBy cmp) (sym (keys_raised q w zs)) sorted) (bounded xs v e p above_xs)
            (bounded ys v e r above_ys) q)

    -- at each key the join of the maps has the join of what they have
    pub joined_at : (q : K) → IsJoinOf (IsBelowAt le) (value_at cmp xs q) (value_at cmp ys q) (value_at cmp zs q)
    joined_at q = record { above_first = above_xs q; above_second = above_ys q; least = λ o p r. least_at q o p r }
