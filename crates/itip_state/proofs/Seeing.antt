-- A map by UID, seen as what it holds: what is at a UID, and what becomes of it.
use Rattle.std.proofs.Common.{◌≡◌, ℕ, List, [], ◌∷◌, refl, sym, ◌∙◌, ap, subst, length, suc, Bool, true, false, Option, Some, None}
use Rattle.std.specs.Prelude.{cond, option_map}
use Rattle.std.specs.List.Sorted.{IsStrictlySortedBy}
use Rattle.std.specs.Map.{keys_of}
use Rattle.std.specs.Ordering.{is_eq}
use Rattle.std.proofs.lemmas.Cmp.{nat_list_cmp_total}
use Rattle.std.proofs.lemmas.Map.Lookups.{exact_bytes}
use Rattle.itip_join.specs.Bounds.{IsJoinOf}
use Rattle.itip_join.specs.Changes.{replaced}
use Rattle.itip_join.specs.KeyByKey.{value_at, IsMapBelow}
use Rattle.itip_join.specs.Optional.{IsBelowAt}
use Rattle.itip_state.specs.Held.{UidState, at, IsReduced, AreOrdered}
use Rattle.itip_state.specs.UidStates.{uid_states}
use Rattle.itip_state.specs.Joined.{IsUidStateBelow, AreBelow, IsJoinedAt}
use Rattle.itip_state.proofs.Lookups.{joined_at}
use Rattle.itip_state.proofs.Joining.{of_both, same_uid_state, uid_state_below_itself}
use Rattle.itip_state.proofs.Maps.{uid_cmp}

module _ {V : Type 0} (of : V → UidState) where
  pub seen_at : (es : List (List ℕ × V)) (q : List ℕ) → option_map of (value_at uid_cmp es q) ≡ at (uid_states es of) q
  seen_at [] q = refl
  seen_at (e ∷ es) q =
      elim (is_eq (uid_cmp q e.0)) as (λ b. option_map of (cond b (Some e.1) (value_at uid_cmp es q)) ≡ cond b (Some (of e.1))
      (at (uid_states es of) q)) [
        | true ↦ refl
        | false ↦ seen_at es q
      ]

  pub keys_seen : (es : List (List ℕ × V)) → keys_of (uid_states es of) ≡ keys_of es
  keys_seen [] = refl
  keys_seen (e ∷ es) = ap (λ ks. e.0 ∷ ks) (keys_seen es)

  pub states_long : (es : List (List ℕ × V)) → length (uid_states es of) ≡ length es
  states_long [] = refl
  states_long (e ∷ es) = ap suc (states_long es)

  pub in_order : (es : List (List ℕ × V)) → IsStrictlySortedBy uid_cmp (keys_of es) → AreOrdered (uid_states es of)
  in_order es s = subst (IsStrictlySortedBy uid_cmp) (sym (keys_seen es)) s

  pub same_seen : (xs zs : List (List ℕ × V)) (q : List ℕ) → value_at uid_cmp xs q ≡ value_at uid_cmp zs q →
      at (uid_states xs of) q ≡ at (uid_states zs of) q
  same_seen xs zs q e = sym (seen_at xs q) ∙ ap (option_map of) e ∙ seen_at zs q

  -- what is found in a map that is seen as `all`
  module _ (es : List (List ℕ × V)) (all : List (List ℕ × UidState)) (seen : uid_states es of ≡ all) (q : List ℕ) where
    pub seen_some : (v : V) → Some v ≡ value_at uid_cmp es q → at all q ≡ Some (of v)
    seen_some v e = ap (λ xs. at xs q) (sym seen) ∙ sym (seen_at es q) ∙ ap (option_map of) (sym e)

    pub seen_none : None ≡ value_at uid_cmp es q → at all q ≡ None
    seen_none e = ap (λ xs. at xs q) (sym seen) ∙ sym (seen_at es q) ∙ ap (option_map of) (sym e)

  -- ---- another value at a UID
  map_cond : (b : Bool) (o p : Option V) → option_map of (cond b o p) ≡ cond b (option_map of o) (option_map of p)
  map_cond true o p = refl
  map_cond false o p = refl

  map_replaced : (o : Option V) (v : V) → option_map of (replaced o v) ≡ replaced (option_map of o) (of v)
  map_replaced None v = refl
  map_replaced (Some w) v = refl

  module _ (xs zs : List (List ℕ × V)) (u : List ℕ) where
    pub put_seen : (o : Option V) → ((q : List ℕ) → value_at uid_cmp zs q ≡ cond (is_eq (uid_cmp u q)) o (value_at uid_cmp xs q))
        → (q : List ℕ) → at (uid_states zs of) q ≡ cond (is_eq (uid_cmp u q)) (option_map of o) (at (uid_states xs of) q)
    put_seen o put q = sym (seen_at zs q) ∙ ap (option_map of) (put q) ∙ map_cond (is_eq (uid_cmp u q)) o (value_at uid_cmp xs q) ∙
        ap (cond (is_eq (uid_cmp u q)) (option_map of o)) (seen_at xs q)

    pub replaced_seen : (v : V) → ((q : List ℕ) →
        value_at uid_cmp zs q ≡ cond (is_eq (uid_cmp u q)) (replaced (value_at uid_cmp xs u) v) (value_at uid_cmp xs q))
        → (q : List ℕ) → at (uid_states zs of) q ≡ cond (is_eq (uid_cmp u q)) (replaced (at (uid_states xs of) u) (of v))
        (at (uid_states xs of) q)
    replaced_seen v put q = put_seen (replaced (value_at uid_cmp xs u) v) put q
        ∙ ap (λ o. cond (is_eq (uid_cmp u q)) o (at (uid_states xs of) q)) (map_replaced (value_at uid_cmp xs u) v ∙
        ap (λ o. replaced o (of v)) (seen_at xs u))

  -- ---- in order
  abbrev pub le : V → V → Type 0
  le v w = IsUidStateBelow (of v) (of w)

  below_map : (o p : Option V) → IsBelowAt le o p → IsBelowAt IsUidStateBelow (option_map of o) (option_map of p)
  below_map None p l = tt
  below_map (Some v) None l = l
  below_map (Some v) (Some w) l = l

  map_below : (o p : Option V) → IsBelowAt IsUidStateBelow (option_map of o) (option_map of p) → IsBelowAt le o p
  map_below None p l = tt
  map_below (Some v) None l = l
  map_below (Some v) (Some w) l = l

  module _ (xs zs : List (List ℕ × V)) where
    pub below_seen : IsMapBelow uid_cmp le xs zs → AreBelow (uid_states xs of) (uid_states zs of)
    below_seen l q = subst (λ (o : Option UidState). IsBelowAt IsUidStateBelow o (at (uid_states zs of) q)) (seen_at xs q)
        (subst (IsBelowAt IsUidStateBelow (option_map of (value_at uid_cmp xs q))) (seen_at zs q)
        (below_map (value_at uid_cmp xs q) (value_at uid_cmp zs q) (l q)))

    pub seen_below : AreBelow (uid_states xs of) (uid_states zs of) → IsMapBelow uid_cmp le xs zs
    seen_below l q = map_below (value_at uid_cmp xs q) (value_at uid_cmp zs q)
        (subst (λ (o : Option UidState). IsBelowAt IsUidStateBelow o (option_map of (value_at uid_cmp zs q))) (sym (seen_at xs q))
        (subst (IsBelowAt IsUidStateBelow (at (uid_states xs of) q)) (sym (seen_at zs q)) (l q)))

  -- ---- joined
  module _ (whole : (v : V) → IsReduced (of v)) (make : (sh : UidState) → IsReduced sh → V) (made : (sh : UidState) (w : IsReduced sh) →
      of (make sh w) ≡ sh) where
    joined_map : (o n m : Option V) → IsJoinOf (IsBelowAt le) o n m → IsJoinedAt (option_map of o) (option_map of n) (option_map of m)
    joined_map None None None j = refl
    joined_map None None (Some c) j = absurd (j.least None tt tt)
    joined_map None (Some b) None j = absurd j.above_second
    joined_map None (Some b) (Some c) j =
        ap Some (same_uid_state (of c) (of b) (whole c) (whole b) (j.least (Some b) tt (uid_state_below_itself (of b))) j.above_second)
    joined_map (Some a) n None j = absurd j.above_first
    joined_map (Some a) None (Some c) j =
        ap Some (same_uid_state (of c) (of a) (whole c) (whole a) (j.least (Some a) (uid_state_below_itself (of a)) tt) j.above_first)
    joined_map (Some a) (Some b) (Some c) j =
        let least : (d : UidState) → IsReduced d → IsUidStateBelow (of a) d → IsUidStateBelow (of b) d → IsUidStateBelow (of c) d =
        λ d w x y. subst (IsUidStateBelow (of c)) (made d w)
        (j.least (Some (make d w)) (subst (IsUidStateBelow (of a)) (sym (made d w)) x) (subst (IsUidStateBelow (of b)) (sym (made d w)) y))
        in (
          of c,
          refl,
          record {
            above_first = j.above_first;
            above_second = j.above_second;
            of_two = of_both (of a) (of b) (whole a) (whole b) (of c) (whole c) j.above_first j.above_second least;
            whole = whole c;
          },
        )

    pub joined_seen : (xs zs : List (List ℕ × V)) (n : Option V) (q : List ℕ) →
        IsJoinOf (IsBelowAt le) (value_at uid_cmp xs q) n (value_at uid_cmp zs q)
        → IsJoinedAt (at (uid_states xs of) q) (option_map of n) (at (uid_states zs of) q)
    joined_seen xs zs n q j = subst (λ (o : Option UidState). IsJoinedAt o (option_map of n) (at (uid_states zs of) q)) (seen_at xs q)
        (subst (IsJoinedAt (option_map of (value_at uid_cmp xs q)) (option_map of n)) (seen_at zs q)
        (joined_map (value_at uid_cmp xs q) n (value_at uid_cmp zs q) j))

    -- maps that carry a proof of their order
    module _ {T : Type 0} (map_of : T → List (List ℕ × V)) (ordered : (t : T) → IsStrictlySortedBy uid_cmp (keys_of (map_of t)))
        (pack : (es : List (List ℕ × V)) → IsStrictlySortedBy uid_cmp (keys_of es) → T)
        (packed : (es : List (List ℕ × V)) (s : IsStrictlySortedBy uid_cmp (keys_of es)) → map_of (pack es s) ≡ es)
        (x y z : T) (joined : IsJoinOf (λ a b. IsMapBelow uid_cmp le (map_of a) (map_of b)) x y z) where
      least : (bound : List (List ℕ × V)) → IsStrictlySortedBy uid_cmp (keys_of bound) → IsMapBelow uid_cmp le (map_of x) bound →
          IsMapBelow uid_cmp le (map_of y) bound
          → IsMapBelow uid_cmp le (map_of z) bound
      least bound s a b = subst (IsMapBelow uid_cmp le (map_of z)) (packed bound s)
          (joined.least (pack bound s) (subst (IsMapBelow uid_cmp le (map_of x)) (sym (packed bound s)) a)
          (subst (IsMapBelow uid_cmp le (map_of y)) (sym (packed bound s)) b))

      pub joined_all : (q : List ℕ) → IsJoinedAt (at (uid_states (map_of x) of) q) (at (uid_states (map_of y) of) q)
          (at (uid_states (map_of z) of) q)
      joined_all q = subst (λ (o : Option UidState). IsJoinedAt (at (uid_states (map_of x) of) q) o (at (uid_states (map_of z) of) q))
          (seen_at (map_of y) q)
          (joined_seen (map_of x) (map_of z) (value_at uid_cmp (map_of y) q) q
          (joined_at nat_list_cmp_total exact_bytes le (map_of x) (map_of y) (map_of z) (ordered z) joined.above_first joined.above_second
          least q))
