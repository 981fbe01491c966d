-- The order of maps, key by key. A map is the list of its entries, in the order of their keys (our own form).
use Rattle.std.specs.Prelude.{◌≡◌, Bool, true, false, not, ◌&&◌, List, [], ◌∷◌, Option, T, cond, filter}
use Rattle.std.proofs.Common.{sym, ap, refl, ◌∙◌, Some}
use Rattle.std.specs.Map.{lookup, keys_of}
use Rattle.std.specs.Ordering.{is_eq, is_lt}
use Rattle.std.specs.Cmp.{IsTotalOrder}
use Rattle.std.specs.List.{AllByRecursion}
use Rattle.std.specs.List.Sorted.{IsStrictlySortedBy}
use Rattle.std.specs.FinMap.Entries.{same_entries, find, is_sorted, below_all}
use Rattle.std.specs.declared.cmp.Ordering.{Ordering}
use Rattle.std.specs.declared.cmp.Ordering.TheVariants.{Less, Equal}
use Rattle.std.proofs.lemmas.Map.Keys.{sorted_head, sorted_tail}
use Rattle.itip_join.specs.Bounds.{IsJoinOf}
use Rattle.itip_join.specs.Optional.{IsBelowAt, IsBelowAt-antisym, IsBelowUnder, alive_part}

-- what the entries have at the key q
abbrev pub value_at : {K V : Type 0} → (K → K → Ordering) → List (K × V) → K → Option V
value_at cmp es q = lookup (λ k. is_eq (cmp q k)) es

-- at each key, es tells no more than fs
abbrev pub IsMapBelow : {K V : Type 0} → (K → K → Ordering) → (V → V → Type 0) → List (K × V) → List (K × V) → Type 0
IsMapBelow {K} cmp le es fs = (k : K) → IsBelowAt le (value_at cmp es k) (value_at cmp fs k)

-- the same, apart from what is dead
abbrev pub IsMapBelowUnder : {K V : Type 0} → (K → V → Bool) → (K → K → Ordering) → (V → V → Type 0) → List (K × V) → List (K × V) → Type 0
IsMapBelowUnder {K} dead cmp le es fs = (k : K) → IsBelowUnder (dead k) le (value_at cmp es k) (value_at cmp fs k)

-- at each key, gs has the join of what es and fs have, apart from what is dead in fs
abbrev pub IsMergeOf : {K V : Type 0} → (K → K → Ordering) → (V → V → Type 0) → (K → V → Bool) → List (K × V) → List (K × V) →
    List (K × V) → Type 0
IsMergeOf {K} cmp le dead es fs gs = (k : K) →
    IsJoinOf (IsBelowAt le) (value_at cmp es k) (alive_part (dead k) (value_at cmp fs k)) (value_at cmp gs k)

-- the entries that are not dead
abbrev pub kept : {K V : Type 0} → (K → V → Bool) → List (K × V) → List (K × V)
kept dead es = filter (λ e. not (dead e.0 e.1)) es

-- no entry is dead
abbrev pub all_alive : {K V : Type 0} → (K → V → Bool) → List (K × V) → Bool
all_alive dead [] = true
all_alive dead (e ∷ es) = not (dead e.0 e.1) && all_alive dead es

both_hold : (a b : Bool) → a ≡ true → b ≡ true → T (a && b)
both_hold true true p q = tt
both_hold true false p q = absurd (cc)
both_hold false b p q = absurd (cc)

truth : (a : Bool) → T a → a ≡ true
truth true t = refl
truth false t = absurd t

module _ {K V : Type 0} (cmp : K → K → Ordering) where
  below_from : (x : K) (es : List (K × V)) → AllByRecursion (λ y. cmp x y ≡ Less) (keys_of es) → T (below_all cmp x es)
  below_from x [] h = tt
  below_from x (e ∷ es) h =
      both_hold (is_lt (cmp x e.0)) (below_all cmp x es) (ap is_lt h.0) (truth (below_all cmp x es) (below_from x es h.1))

  sorted_from : (es : List (K × V)) → IsStrictlySortedBy cmp (keys_of es) → T (is_sorted cmp es)
  sorted_from [] h = tt
  sorted_from (e ∷ es) h = both_hold (below_all cmp e.0 es) (is_sorted cmp es)
      (truth (below_all cmp e.0 es) (below_from e.0 es (sorted_head cmp e.0 (keys_of es) h)))
      (truth (is_sorted cmp es) (sorted_from es (sorted_tail cmp e.0 (keys_of es) h)))

  as_found : (q : K) (es : List (K × V)) → find cmp q es ≡ value_at cmp es q
  as_found q [] = refl
  as_found q (e ∷ es) = ap (λ r. cond (is_eq (cmp q e.0)) (Some e.1) r) (as_found q es)

module _ {K V : Type 0} {cmp : K → K → Ordering} (total : IsTotalOrder cmp) (exact : (x y : K) → cmp x y ≡ Equal → x ≡ y) where
  -- two maps that have the same at each key are the same
  pub entries_from_values : (es fs : List (K × V)) → IsStrictlySortedBy cmp (keys_of es) → IsStrictlySortedBy cmp (keys_of fs)
      → ((q : K) → value_at cmp es q ≡ value_at cmp fs q) → es ≡ fs
  entries_from_values es fs s t h =
      same_entries cmp total exact es fs (sorted_from cmp es s) (sorted_from cmp fs t) (λ q. as_found cmp q es ∙ h q ∙
      sym (as_found cmp q fs))

  pub IsMapBelow-antisym : (le : V → V → Type 0) → ((x y : V) → le x y → le y x → x ≡ y) → (es fs : List (K × V)) →
      IsStrictlySortedBy cmp (keys_of es) → IsStrictlySortedBy cmp (keys_of fs)
      → IsMapBelow cmp le es fs → IsMapBelow cmp le fs es → es ≡ fs
  IsMapBelow-antisym le a es fs s t p q =
      entries_from_values es fs s t (λ k. IsBelowAt-antisym le a (value_at cmp es k) (value_at cmp fs k) (p k) (q k))
