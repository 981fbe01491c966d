-- Maps under a guard: what is alive in them, and when they are the same (our own form).
use Rattle.std.specs.Prelude.{◌≡◌, Bool, true, false, not, ◌&&◌, cond, List, [], ◌∷◌, Some}
use Rattle.std.proofs.Common.{sym, ap, refl, ◌∙◌}
use Rattle.std.specs.Map.{keys_of}
use Rattle.std.specs.Ordering.{is_eq}
use Rattle.std.specs.Cmp.{IsTotalOrder, Equal-is}
use Rattle.std.specs.List.Sorted.{IsStrictlySortedBy}
use Rattle.std.specs.declared.cmp.Ordering.{Ordering}
use Rattle.std.specs.declared.cmp.Ordering.TheVariants.{Equal}
use Rattle.itip_join.specs.Optional.{IsBelowUnder-alive, IsBelowAt-antisym}
use Rattle.itip_join.specs.KeyByKey.{value_at, IsMapBelowUnder, all_alive, entries_from_values}

first_holds : (a b : Bool) → (a && b) ≡ true → a ≡ true
first_holds true b e = refl
first_holds false b e = absurd (cc)

second_holds : (a b : Bool) → (a && b) ≡ true → b ≡ true
second_holds true b e = e
second_holds false b e = absurd (cc)

was_false : (b : Bool) → not b ≡ true → b ≡ false
was_false true e = absurd (cc)
was_false false e = refl

same_value : {V : Type 0} (x y : V) → Some x ≡ Some y → x ≡ y
same_value x y e = cc

module _ {K V : Type 0} {cmp : K → K → Ordering} (exact : (x y : K) → cmp x y ≡ Equal → x ≡ y) (dead : K → V → Bool) where
  -- what a map without dead entries has at a key is alive
  pub found_alive : (es : List (K × V)) → all_alive dead es ≡ true → (q : K) (x : V) → value_at cmp es q ≡ Some x → dead q x ≡ false
  found_alive [] h q x e = absurd (cc)
  found_alive (p ∷ ps) h q x e =
      elim (is_eq (cmp q p.0)) as (λ b. is_eq (cmp q p.0) ≡ b → cond b (Some p.1) (value_at cmp ps q) ≡ Some x → dead q x ≡ false) [
        | true ↦ λ k f.
            let v : p.1 ≡ x = same_value p.1 x f in
            let here : dead p.0 p.1 ≡ false = was_false (dead p.0 p.1) (first_holds (not (dead p.0 p.1)) (all_alive dead ps) h) in
            ap (λ y. dead q y) (sym v) ∙ ap (λ y. dead y p.1) (exact q p.0 ((Equal-is (cmp q p.0)).0 k)) ∙ here
        | false ↦ λ k f. found_alive ps (second_holds (not (dead p.0 p.1)) (all_alive dead ps) h) q x f
      ] refl e

  -- two maps without dead entries, each below the other apart from what is dead, are the same
  pub IsMapBelowUnder-antisym : IsTotalOrder cmp → (le : V → V → Type 0) → ((x y : V) → le x y → le y x → x ≡ y)
      → (es fs : List (K × V)) → IsStrictlySortedBy cmp (keys_of es) → IsStrictlySortedBy cmp (keys_of fs)
      → all_alive dead es ≡ true → all_alive dead fs ≡ true → IsMapBelowUnder dead cmp le es fs → IsMapBelowUnder dead cmp le fs es →
      es ≡ fs
  IsMapBelowUnder-antisym total le a es fs s t alive also p q = entries_from_values total exact es fs s t
      (λ k. IsBelowAt-antisym le a (value_at cmp es k) (value_at cmp fs k)
      (IsBelowUnder-alive le (dead k) (value_at cmp es k) (value_at cmp fs k) (found_alive es alive k) (p k))
      (IsBelowUnder-alive le (dead k) (value_at cmp fs k) (value_at cmp es k) (found_alive fs also k) (q k)))
