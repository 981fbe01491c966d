-- Two maps with values in a chain, put together key by key: at each key the greater of what they have.
use Rattle.std.proofs.Common.{◌≡◌, sym, ◌∙◌, ap, subst, refl, true, false, List, [], ◌∷◌, Option, Some, None, ◌⊎◌, inl, inr}
use Rattle.std.specs.Prelude.{cond}
use Rattle.std.specs.Map.{keys_of}
use Rattle.std.specs.List.{AllByRecursion}
use Rattle.std.specs.List.Sorted.{IsStrictlySortedBy}
use Rattle.std.specs.Ordering.{is_eq, ordering_reverse}
use Rattle.std.specs.Cmp.{IsTotalOrder}
use Rattle.std.specs.FinMap.Entries.{by_order, put, find, find-put}
use Rattle.std.specs.declared.cmp.Ordering.{Ordering}
use Rattle.std.specs.declared.cmp.Ordering.TheVariants.{Less, Equal, Greater}
use Rattle.std.proofs.lemmas.Map.Keys.{sorted_tail}
use Rattle.itip_join.specs.Optional.{IsBelowAt, IsBelowAt-refl}
use Rattle.itip_join.specs.KeyByKey.{value_at}
use Rattle.itip_state.proofs.Members.{by_bool}
use Rattle.itip_state.proofs.Lookups.{one_key, at_head, at_other, none_in_tail}

all_map : {K : Type 0} (P Q : K → Type 0) → ((x : K) → P x → Q x) → (ks : List K) → AllByRecursion P ks → AllByRecursion Q ks
all_map P Q f [] a = tt
all_map P Q f (k ∷ ks) a = (f k a.0, all_map P Q f ks a.1)

module _ {K V : Type 0} {cmp : K → K → Ordering} (total : IsTotalOrder cmp) (exact : (x y : K) → cmp x y ≡ Equal → x ≡ y) where
  as_found : (q : K) (es : List (K × V)) → find cmp q es ≡ value_at cmp es q
  as_found q [] = refl
  as_found q (e ∷ es) = ap (λ r. cond (is_eq (cmp q e.0)) (Some e.1) r) (as_found q es)

  -- a value put into a map is found at its key, and nothing else changes
  put_at : (k : K) (v : V) (es : List (K × V)) (q : K) →
      value_at cmp (put cmp k v es) q ≡ cond (is_eq (cmp q k)) (Some v) (value_at cmp es q)
  put_at k v es q = sym (as_found q (put cmp k v es)) ∙ find-put cmp total q k v es ∙
      ap (λ o. cond (is_eq (cmp q k)) (Some v) o) (as_found q es)

  all_put : (P : K → Type 0) (k : K) (v : V) (es : List (K × V)) → P k → AllByRecursion P (keys_of es) →
      AllByRecursion P (keys_of (put cmp k v es))
  all_put P k v [] p a = (p, tt)
  all_put P k v (e ∷ es) p a =
      elim (cmp k e.0) as (λ o. AllByRecursion P (keys_of (by_order o ((k, v) ∷ e ∷ es) ((e.0, v) ∷ es) (e ∷ put cmp k v es)))) [
        | Less ↦ (p, a)
        | Equal ↦ a
        | Greater ↦ (a.0, all_put P k v es p a.1)
      ]

  sorted_put : (k : K) (v : V) (es : List (K × V)) → IsStrictlySortedBy cmp (keys_of es) → IsStrictlySortedBy cmp (keys_of (put cmp k v es))
  unfolding IsStrictlySortedBy
  sorted_put k v [] s = (tt, tt)
  sorted_put k v (e ∷ es) s =
      elim (cmp k e.0) as (λ o. cmp k e.0 ≡ o →
      IsStrictlySortedBy cmp (keys_of (by_order o ((k, v) ∷ e ∷ es) ((e.0, v) ∷ es) (e ∷ put cmp k v es)))) [
        | Less ↦ λ p. ((p, all_map (λ y. cmp e.0 y ≡ Less) (λ y. cmp k y ≡ Less) (λ y h. total.trans k e.0 y p h) (keys_of es) s.0), s)
        | Equal ↦ λ p. s
        | Greater ↦ λ p. (all_put (λ y. cmp e.0 y ≡ Less) k v es (total.antisymm e.0 k ∙ ap ordering_reverse p) s.0, sorted_put k v es s.1)
      ] refl

  module _ (le : V → V → Type 0) (reflexive : (x : V) → le x x) (transitive : (x y z : V) → le x y → le y z → le x z) (chain : (x y : V) →
      le x y ⊎ le y x) where
    -- the greater of what a map has and a value
    greater : Option V → V → V
    greater None w = w
    greater (Some v) w = elim (chain v w) [ inl up ↦ w | inr down ↦ v ]

    -- it is above both, and one of them
    record IsGreater (a b c : Option V) : Type 0 where
      above_first : IsBelowAt le a c
      above_second : IsBelowAt le b c
      one : (c ≡ a) ⊎ (c ≡ b)

    greater_is : (a : Option V) (w : V) → IsGreater a (Some w) (Some (greater a w))
    unfolding greater
    greater_is None w = record { above_first = tt; above_second = reflexive w; one = inr refl }
    greater_is (Some v) w = elim (chain v w) as (λ s. IsGreater (Some v) (Some w) (Some (elim s [ inl up ↦ w | inr down ↦ v ]))) [
      | inl up ↦ record { above_first = up; above_second = reflexive w; one = inr refl }
      | inr down ↦ record { above_first = reflexive v; above_second = down; one = inl refl }
    ]

    pub combined : List (K × V) → List (K × V) → List (K × V)
    combined xs [] = xs
    combined xs (e ∷ ys) = combined (put cmp e.0 (greater (value_at cmp xs e.0) e.1) xs) ys

    pub combined_sorted : (xs ys : List (K × V)) → IsStrictlySortedBy cmp (keys_of xs) → IsStrictlySortedBy cmp (keys_of (combined xs ys))
    unfolding combined
    combined_sorted xs [] s = s
    combined_sorted xs (e ∷ ys) s =
        combined_sorted (put cmp e.0 (greater (value_at cmp xs e.0) e.1) xs) ys (sorted_put e.0 (greater (value_at cmp xs e.0) e.1) xs s)

    module _ (xs : List (K × V)) (e : K × V) (ys : List (K × V)) (t : IsStrictlySortedBy cmp (keys_of (e ∷ ys))) (q : K) where
      abbrev w : V
      w = greater (value_at cmp xs e.0) e.1

      abbrev c : Option V
      c = value_at cmp (combined (put cmp e.0 w xs) ys) q

      only_w : (o : Option V) → IsGreater (Some w) None o → o ≡ Some w
      only_w o g = elim g.one [ inl f ↦ f | inr f ↦ absurd (subst (IsBelowAt le (Some w)) f g.above_first) ]

      apart : IsGreater (value_at cmp (put cmp e.0 w xs) q) (value_at cmp ys q) c → is_eq (cmp q e.0) ≡ false →
          IsGreater (value_at cmp xs q) (value_at cmp (e ∷ ys) q) c
      apart rest n =
          let first : value_at cmp (put cmp e.0 w xs) q ≡ value_at cmp xs q = put_at e.0 w xs q ∙
          ap (λ b. cond b (Some w) (value_at cmp xs q)) n in
          let second : value_at cmp (e ∷ ys) q ≡ value_at cmp ys q = at_other total exact e ys q n in
          subst (λ (a : Option V). IsGreater a (value_at cmp (e ∷ ys) q) c) first
          (subst (λ (b : Option V). IsGreater (value_at cmp (put cmp e.0 w xs) q) b c) (sym second) rest)

      here : IsGreater (value_at cmp (put cmp e.0 w xs) q) (value_at cmp ys q) c → is_eq (cmp q e.0) ≡ true →
          IsGreater (value_at cmp xs q) (value_at cmp (e ∷ ys) q) c
      here rest k =
          let key : q ≡ e.0 = one_key total exact q e.0 k in
          let first : value_at cmp (put cmp e.0 w xs) q ≡ Some w = put_at e.0 w xs q ∙ ap (λ b. cond b (Some w) (value_at cmp xs q)) k in
          let second : value_at cmp ys q ≡ None = none_in_tail total exact e ys q t k in
          let theirs : value_at cmp (e ∷ ys) q ≡ Some e.1 = ap (value_at cmp (e ∷ ys)) key ∙ at_head total exact e ys in
          let mine : value_at cmp xs q ≡ value_at cmp xs e.0 = ap (value_at cmp xs) key in
          let of_w : IsGreater (Some w) None c =
          subst (λ (b : Option V). IsGreater (Some w) b c) second
          (subst (λ (a : Option V). IsGreater a (value_at cmp ys q) c) first rest) in
          let is : IsGreater (value_at cmp xs e.0) (Some e.1) (Some w) = greater_is (value_at cmp xs e.0) e.1 in
          subst (λ (a : Option V). IsGreater a (value_at cmp (e ∷ ys) q) c) (sym mine)
          (subst (λ (b : Option V). IsGreater (value_at cmp xs e.0) b c) (sym theirs)
          (subst (IsGreater (value_at cmp xs e.0) (Some e.1)) (sym (only_w c of_w)) is))

    combined_at : (xs ys : List (K × V)) → IsStrictlySortedBy cmp (keys_of ys) → (q : K) →
        IsGreater (value_at cmp xs q) (value_at cmp ys q) (value_at cmp (combined xs ys) q)
    unfolding combined
    combined_at xs [] t q = record { above_first = IsBelowAt-refl le reflexive (value_at cmp xs q); above_second = tt; one = inl refl }
    combined_at xs (e ∷ ys) t q =
        let rest = combined_at (put cmp e.0 (greater (value_at cmp xs e.0) e.1) xs) ys (sorted_tail cmp e.0 (keys_of ys) t) q in
        by_bool (is_eq (cmp q e.0)) (IsGreater (value_at cmp xs q) (value_at cmp (e ∷ ys) q) (value_at cmp (combined xs (e ∷ ys)) q))
        (here xs e ys t q rest) (apart xs e ys t q rest)

    pub combined_first : (xs ys : List (K × V)) → IsStrictlySortedBy cmp (keys_of ys) → (q : K) →
        IsBelowAt le (value_at cmp xs q) (value_at cmp (combined xs ys) q)
    combined_first xs ys t q = (combined_at xs ys t q).above_first

    pub combined_second : (xs ys : List (K × V)) → IsStrictlySortedBy cmp (keys_of ys) → (q : K) →
        IsBelowAt le (value_at cmp ys q) (value_at cmp (combined xs ys) q)
    combined_second xs ys t q = (combined_at xs ys t q).above_second

    pub combined_one : (xs ys : List (K × V)) → IsStrictlySortedBy cmp (keys_of ys) → (q : K) →
        (value_at cmp (combined xs ys) q ≡ value_at cmp xs q) ⊎ (value_at cmp (combined xs ys) q ≡ value_at cmp ys q)
    combined_one xs ys t q = (combined_at xs ys t q).one
