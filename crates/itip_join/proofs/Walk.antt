-- A walk over the entries of a map: what holds at the keys that it has passed, and at those to come.
use Rattle.std.proofs.Common.{◌≡◌, sym, ◌∙◌, ap, subst, refl, true, false, List, [], ◌∷◌, Some, None}
use Rattle.std.specs.Prelude.{cond, Option}
use Rattle.std.specs.Map.{lookup, keys_of}
use Rattle.std.specs.List.Sorted.{IsStrictlySortedBy}
use Rattle.std.specs.Ordering.{is_eq}
use Rattle.std.specs.Cmp.{IsTotalOrder, Equal-is, eq_by_cmp_equiv, tied_itself}
use Rattle.std.specs.declared.cmp.Ordering.{Ordering}
use Rattle.std.specs.declared.cmp.Ordering.TheVariants.{Equal}
use Rattle.std.proofs.lemmas.Map.{lookup-none}
use Rattle.std.proofs.lemmas.Map.Entries.{none_past_head}
use Rattle.std.proofs.lemmas.Map.Keys.{IsDistinct-from_sorted, sorted_tail}

-- of the entries of the map `all`, those in `rest` are to come: P holds at the keys that are not among them, and R at those that are
pub record IsWalk {K V : Type 0} (cmp : K → K → Ordering) (all : K → Option V) (P R : K → Type 0) (rest : List (K × V)) : Type 0 where
  pub sorted : IsStrictlySortedBy cmp (keys_of rest)
  pub found : (q : K) (v : V) → lookup (λ k. is_eq (cmp q k)) rest ≡ Some v → all q ≡ Some v
  pub passed : (q : K) → lookup (λ k. is_eq (cmp q k)) rest ≡ None → P q
  pub coming : (q : K) (v : V) → lookup (λ k. is_eq (cmp q k)) rest ≡ Some v → R q

module _ {K V : Type 0} {cmp : K → K → Ordering} (total : IsTotalOrder cmp) (exact : (x y : K) → cmp x y ≡ Equal → x ≡ y) {all : K →
    Option V} {P R : K → Type 0} where
  module _ {k : K} {v : V} {rest : List (K × V)} (w : IsWalk cmp all P R ((k, v) ∷ rest)) where
    -- the next entry is found in the map
    pub walk_found : all k ≡ Some v
    walk_found = w.found k v (ap (λ b. cond b (Some v) (lookup (λ x. is_eq (cmp k x)) rest)) (ap is_eq (tied_itself total k)))

    pub walk_coming : R k
    walk_coming = w.coming k v (ap (λ b. cond b (Some v) (lookup (λ x. is_eq (cmp k x)) rest)) (ap is_eq (tied_itself total k)))

    none_later : (q : K) → is_eq (cmp q k) ≡ true → lookup (λ x. is_eq (cmp q x)) rest ≡ None
    none_later q e = lookup-none _ rest (none_past_head (eq_by_cmp_equiv total) q (k, v) rest
        (IsDistinct-from_sorted cmp (keys_of ((k, v) ∷ rest)) w.sorted) e)

    same_key : (q : K) → is_eq (cmp q k) ≡ true → k ≡ q
    same_key q e = sym (exact q k ((Equal-is (cmp q k)).0 e))

    -- the walk passes the next entry, if P' and R' hold at the other keys at which P and R did
    pub walk_step : (P' R' : K → Type 0) → P' k → ((q : K) → is_eq (cmp q k) ≡ false → P q → P' q) →
        ((q : K) → is_eq (cmp q k) ≡ false → R q → R' q)
        → IsWalk cmp all P' R' rest
    walk_step P' R' here stays waits = record {
      sorted = sorted_tail cmp k (keys_of rest) w.sorted;
      found = λ q x l. by_key q (all q ≡ Some x)
          (λ e. let n : lookup (λ y. is_eq (cmp q y)) rest ≡ None = none_later q e in absurd (cc))
          (λ e. w.found q x (ap (λ b. cond b (Some v) (lookup (λ y. is_eq (cmp q y)) rest)) e ∙ l));
      passed = λ q l. by_key q (P' q)
          (λ e. subst P' (same_key q e) here)
          (λ e. stays q e (w.passed q (ap (λ b. cond b (Some v) (lookup (λ y. is_eq (cmp q y)) rest)) e ∙ l)));
      coming = λ q x l. by_key q (R' q)
          (λ e. let n : lookup (λ y. is_eq (cmp q y)) rest ≡ None = none_later q e in absurd (cc))
          (λ e. waits q e (w.coming q x (ap (λ b. cond b (Some v) (lookup (λ y. is_eq (cmp q y)) rest)) e ∙ l)));
    }
      where
        by_key : (q : K) (G : Type 0) → (is_eq (cmp q k) ≡ true → G) → (is_eq (cmp q k) ≡ false → G) → G
        by_key q G here_q apart = elim (is_eq (cmp q k)) as (λ b. is_eq (cmp q k) ≡ b → G) [ true ↦ here_q | false ↦ apart ] refl

  pub walk_next : {k : K} {v : V} {s rest : List (K × V)} → s ≡ (k, v) ∷ rest → IsWalk cmp all P R s → IsWalk cmp all P R ((k, v) ∷ rest)
  walk_next e w = subst (IsWalk cmp all P R) e w

  -- the walk begins
  pub walk_start : (es : List (K × V)) → IsStrictlySortedBy cmp (keys_of es) → ((q : K) → lookup (λ k. is_eq (cmp q k)) es ≡ all q)
      → ((q : K) → all q ≡ None → P q) → ((q : K) → R q) → IsWalk cmp all P R es
  walk_start es s is begin wait = record {
    sorted = s;
    found = λ q v l. sym (is q) ∙ l;
    passed = λ q l. begin q (sym (is q) ∙ l);
    coming = λ q v l. wait q;
  }

  -- the walk is over
  pub walk_end : {rest : List (K × V)} → rest ≡ [] → IsWalk cmp all P R rest → (q : K) → P q
  walk_end e w q = (subst (IsWalk cmp all P R) e w).passed q refl
