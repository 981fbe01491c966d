-- The join of two states of one UID holds nothing but what the two hold.
use Rattle.std.proofs.Common.{◌≡◌, ℕ, List, [], ◌∷◌, refl, sym, ◌∙◌, ap, subst, ◌⊎◌, inl, inr, Bool, true, false, Option, Some, None}
use Rattle.std.specs.Prelude.{cond, not}
use Rattle.std.specs.List.{Contains, AllByRecursion}
use Rattle.std.specs.List.Sorted.{IsStrictlySortedBy}
use Rattle.std.specs.Map.{keys_of}
use Rattle.std.specs.declared.cmp.Ordering.{Ordering}
use Rattle.std.specs.declared.cmp.Ordering.TheVariants.{Less}
use Rattle.itip_join.specs.declared.lift.Lift.{Lift}
use Rattle.itip_join.specs.KeyByKey.{value_at, kept, all_alive, IsMapBelowUnder}
use Rattle.itip_join.specs.Killed.{found_alive, IsMapBelowUnder-antisym}
use Rattle.itip_join.specs.Optional.{IsBelowAt, IsBelowUnder, alive_part}
use Rattle.itip_join.specs.Lifted.{IsLiftedBelow, IsLiftedBelow-refl, IsLiftedBelow-antisym, IsLiftedBelow-comparable}
use Rattle.itip_join.specs.Ranked.{IsUpTo-refl, IsUpTo-trans, IsUpTo-tie, IsUpTo-comparable}
use Rattle.itip_join.proofs.Under.{all_alive-kept, value_at-kept}
use Rattle.itip_items.specs.declared.item.Item.{Item}
use Rattle.itip_items.specs.declared.key.Key.{Key}
use Rattle.itip_state.specs.Slots.{slot_cmp, slot_total, slot_exact}
use Rattle.itip_items.specs.Revisions.{revisions_total}
use Rattle.itip_items.proofs.Revisions.{revision_exact}
use Rattle.itip_state.specs.Held.{Best, UidState, best, uid_state_items, is_killed, IsSeriesAt, IsEntryAt, IsPlaced, IsReduced, IsSound}
use Rattle.itip_state.specs.Joined.{IsUidStateBelow, HoldsOfTwo}
use Rattle.itip_state.specs.DyingLaws.{IsNoLater, kills_below, kills_more}
use Rattle.itip_state.proofs.Lookups.{all_from_values, value_from_all}
use Rattle.itip_state.proofs.UidStates.{AreSorted, held_as, series_held, entry_held}
use Rattle.itip_state.proofs.Combine.{combined, combined_sorted, combined_first, combined_second, combined_one}

pub no_later_itself : (b : Best) → IsNoLater b b
no_later_itself b = IsUpTo-refl revisions_total b.value

no_later_through : (a b c : Best) → IsNoLater a b → IsNoLater b c → IsNoLater a c
no_later_through a b c = IsUpTo-trans revisions_total a.value b.value c.value

pub no_later_one : (a b : Best) → IsNoLater a b ⊎ IsNoLater b a
no_later_one a b = IsUpTo-comparable revisions_total a.value b.value

pub no_later_same : (a b : Best) → IsNoLater a b → IsNoLater b a → a ≡ b
no_later_same a b p q = λ i. record { value = revision_exact a.value b.value (IsUpTo-tie revisions_total a.value b.value p q) i }

abbrev both_entries : List (Key × Best) → List (Key × Best) → List (Key × Best)
both_entries = combined slot_total slot_exact IsNoLater no_later_itself no_later_through no_later_one

-- ---- what is kept of a map
module _ {K V : Type 0} (cmp : K → K → Ordering) (dead : K → V → Bool) where
  all_kept : (P : K → Type 0) (es : List (K × V)) → AllByRecursion P (keys_of es) → AllByRecursion P (keys_of (kept dead es))
  all_kept P [] a = tt
  all_kept P (e ∷ es) a =
      elim (dead e.0 e.1) as (λ b. AllByRecursion P (keys_of (cond (not b) (e ∷ kept dead es) (kept dead es))))
      [ true ↦ all_kept P es a.1 | false ↦ (a.0, all_kept P es a.1) ]

  pub kept_sorted : (es : List (K × V)) → IsStrictlySortedBy cmp (keys_of es) → IsStrictlySortedBy cmp (keys_of (kept dead es))
  unfolding IsStrictlySortedBy
  kept_sorted [] s = tt
  kept_sorted (e ∷ es) s = elim (dead e.0 e.1) as (λ b. IsStrictlySortedBy cmp (keys_of (cond (not b) (e ∷ kept dead es) (kept dead es)))) [
    | true ↦ kept_sorted es s.1
    | false ↦ (all_kept (λ y. cmp e.0 y ≡ Less) es s.0, kept_sorted es s.1)
  ]

alive_some : (dead : Best → Bool) (o : Option Best) (b : Best) → alive_part dead o ≡ Some b → o ≡ Some b
alive_some dead None b e = let x : None ≡ Some b = e in absurd (cc)
alive_some dead (Some c) b e =
    elim (dead c) as (λ t. cond t None (Some c) ≡ Some b → Some c ≡ Some b) [
      | true ↦ λ f. let x : None ≡ Some b = f in
          absurd (cc)
      | false ↦ λ f. f
    ] e

-- ---- a bound that holds nothing but what the two hold
module _ (a b c bound : UidState) (whole_c : IsReduced c) (above_a : IsUidStateBelow a c) (above_b : IsUidStateBelow b c)
    (le : IsUidStateBelow c bound) (of_two : HoldsOfTwo a b bound) where
  up : IsLiftedBelow IsNoLater bound.series c.series
  up = elim of_two.series [
    | inl e ↦ subst (λ (s : Lift Best). IsLiftedBelow IsNoLater s c.series) (sym e) above_a.0
    | inr e ↦ subst (λ (s : Lift Best). IsLiftedBelow IsNoLater s c.series) (sym e) above_b.0
  ]

  series_same : c.series ≡ bound.series
  series_same = IsLiftedBelow-antisym IsNoLater no_later_same c.series bound.series le.0 up

  module _ (q : Key) (v : Best) (here : value_at slot_cmp c.entries q ≡ Some v) where
    lives : is_killed c.series q v ≡ true → ⊥
    lives d = let x : true ≡ false = sym d ∙ found_alive slot_exact (is_killed c.series) c.entries whole_c.alive q v here in cc

    dead_there : is_killed bound.series q v ≡ true → ⊥
    dead_there d = lives (kills_more bound.series c.series q v.value up d)

    -- a value that tells no less is the value
    same : (d : UidState) (w : Best) → IsUidStateBelow d c → value_at slot_cmp d.entries q ≡ Some w → IsNoLater v w →
        value_at slot_cmp d.entries q ≡ Some v
    same d w above there l =
        there ∙ ap Some (back (subst (λ (o : Option Best). IsBelowUnder (is_killed c.series q) IsNoLater (Some w) o) here
        (subst (λ (o : Option Best). IsBelowUnder (is_killed c.series q) IsNoLater o (value_at slot_cmp c.entries q)) there (above.1 q))))
      where
        back : (is_killed c.series q w ≡ true) ⊎ IsNoLater w v → w ≡ v
        back (inl d) = absurd (lives (kills_below c.series q v.value w.value d l))
        back (inr r) = no_later_same w v r l

    entry_one : (value_at slot_cmp a.entries q ≡ Some v) ⊎ (value_at slot_cmp b.entries q ≡ Some v)
    entry_one = by (value_at slot_cmp bound.entries q) refl
        (subst (λ (o : Option Best). IsBelowUnder (is_killed bound.series q) IsNoLater o (value_at slot_cmp bound.entries q)) here (le.1 q))
      where
        by : (o : Option Best) → value_at slot_cmp bound.entries q ≡ o → IsBelowUnder (is_killed bound.series q) IsNoLater (Some v) o
            → (value_at slot_cmp a.entries q ≡ Some v) ⊎ (value_at slot_cmp b.entries q ≡ Some v)
        by None e d = absurd (dead_there d)
        by (Some w) e (inl d) = absurd (dead_there d)
        by (Some w) e (inr l) = elim (of_two.entries q w e) [ inl f ↦ inl (same a w above_a f l) | inr f ↦ inr (same b w above_b f l) ]

  pub of_bound : HoldsOfTwo a b c
  of_bound = record {
    series = elim of_two.series [ inl e ↦ inl (series_same ∙ e) | inr e ↦ inr (series_same ∙ e) ];
    entries = entry_one;
  }

-- ---- the bound of two
module _ (a b : UidState) (whole_a : IsReduced a) (whole_b : IsReduced b) (g : Lift Best)
    (up_a : IsLiftedBelow IsNoLater a.series g) (up_b : IsLiftedBelow IsNoLater b.series g) (one : (g ≡ a.series) ⊎ (g ≡ b.series)) where
  abbrev all : List (Key × Best)
  all = both_entries a.entries b.entries

  abbrev bound : UidState
  bound = record { series = g; entries = kept (is_killed g) all }

  all_sorted : AreSorted all
  all_sorted = combined_sorted slot_total slot_exact IsNoLater no_later_itself no_later_through no_later_one a.entries b.entries
      whole_a.sorted

  bound_whole : IsReduced bound
  bound_whole = record { sorted = kept_sorted slot_cmp (is_killed g) all all_sorted; alive = all_alive-kept (is_killed g) all }

  found : (q : Key) → value_at slot_cmp bound.entries q ≡ alive_part (is_killed g q) (value_at slot_cmp all q)
  found q = value_at-kept (is_killed g) slot_total slot_exact all all_sorted q

  bound_of_two : HoldsOfTwo a b bound
  bound_of_two = record {
    series = one;
    entries = λ q v e.
        let there : value_at slot_cmp all q ≡ Some v = alive_some (is_killed g q) (value_at slot_cmp all q) v (sym (found q) ∙ e) in
        elim (combined_one slot_total slot_exact IsNoLater no_later_itself no_later_through no_later_one a.entries b.entries whole_b.sorted
        q) [ inl f ↦ inl (sym f ∙ there) | inr f ↦ inr (sym f ∙ there) ];
  }

  under : (q : Key) (o p : Option Best) → IsBelowAt IsNoLater o p → IsBelowUnder (is_killed g q) IsNoLater o (alive_part (is_killed g q) p)
  under q None p l = tt
  under q (Some v) None l = absurd l
  under q (Some v) (Some w) l =
      elim (is_killed g q w) as (λ t. is_killed g q w ≡ t → IsBelowUnder (is_killed g q) IsNoLater (Some v) (cond t None (Some w))) [
        | true ↦ λ d. kills_below g q v.value w.value d l
        | false ↦ λ d. inr l
      ] refl

  bound_first : IsUidStateBelow a bound
  bound_first = (
    up_a,
    λ q. subst (IsBelowUnder (is_killed g q) IsNoLater (value_at slot_cmp a.entries q)) (sym (found q))
        (under q (value_at slot_cmp a.entries q) (value_at slot_cmp all q)
        (combined_first slot_total slot_exact IsNoLater no_later_itself no_later_through no_later_one a.entries b.entries
        whole_b.sorted q)),
  )

  bound_second : IsUidStateBelow b bound
  bound_second = (
    up_b,
    λ q. subst (IsBelowUnder (is_killed g q) IsNoLater (value_at slot_cmp b.entries q)) (sym (found q))
        (under q (value_at slot_cmp b.entries q) (value_at slot_cmp all q)
        (combined_second slot_total slot_exact IsNoLater no_later_itself no_later_through no_later_one a.entries b.entries
        whole_b.sorted q)),
  )

  pub of_two : (c : UidState) → IsReduced c → IsUidStateBelow a c → IsUidStateBelow b c →
      ((d : UidState) → IsReduced d → IsUidStateBelow a d → IsUidStateBelow b d → IsUidStateBelow c d) → HoldsOfTwo a b c
  of_two c whole_c above_a above_b least =
      of_bound a b c bound whole_c above_a above_b (least bound bound_whole bound_first bound_second) bound_of_two

-- ---- what holds nothing but what two hold is in place, and has only their items
module _ (uid : List ℕ) (a b c : UidState) (is : HoldsOfTwo a b c) (whole_c : IsReduced c) where
  pub placed_of_two : IsPlaced uid a → IsPlaced uid b → IsPlaced uid c
  placed_of_two p q = record {
    series = elim is.series [ inl e ↦ subst (IsSeriesAt uid) (sym e) p.series | inr e ↦ subst (IsSeriesAt uid) (sym e) q.series ];
    entries = all_from_values slot_total slot_exact (λ e. IsEntryAt uid e.0 e.1) c.entries whole_c.sorted
        (λ k v e. elim (is.entries k v e) [ inl f ↦ at a p k v f | inr f ↦ at b q k v f ]);
  }
    where
      at : (d : UidState) → IsPlaced uid d → (k : Key) (v : Best) → value_at slot_cmp d.entries k ≡ Some v → IsEntryAt uid k v
      at d r k v f = value_from_all slot_total slot_exact (λ e. IsEntryAt uid e.0 e.1) d.entries r.entries k v f

  pub items_of_two : IsSound uid a → IsSound uid b → IsSound uid c → (i : Item) → Contains (uid_state_items c) i →
      Contains (uid_state_items a) i ⊎ Contains (uid_state_items b) i
  items_of_two p q r i h = elim (held_as uid c r i h) [
    | inl first ↦ elim is.series [
      | inl e ↦ inl (series_held uid a p i (sym e ∙ first.0))
      | inr e ↦ inr
          (series_held uid b q i (sym e ∙ first.0))
    ]
    | inr other ↦ elim (is.entries i.key (best i) other.0)
        [ inl f ↦ inl (entry_held uid a p i.key (best i) f) | inr f ↦ inr (entry_held uid b q i.key (best i) f) ]
  ]

pub uid_state_below_itself : (sh : UidState) → IsUidStateBelow sh sh
uid_state_below_itself sh = (IsLiftedBelow-refl IsNoLater no_later_itself sh.series, λ q. at q (value_at slot_cmp sh.entries q))
  where
    at : (q : Key) (o : Option Best) → IsBelowUnder (is_killed sh.series q) IsNoLater o o
    at q None = tt
    at q (Some v) = inr (no_later_itself v)

-- two states below each other are equal
pub same_uid_state : (a b : UidState) → IsReduced a → IsReduced b → IsUidStateBelow a b → IsUidStateBelow b a → a ≡ b
same_uid_state a b whole_a whole_b up down =
    let s : a.series ≡ b.series = IsLiftedBelow-antisym IsNoLater no_later_same a.series b.series up.0 down.0 in
    let e : a.entries ≡ b.entries =
    IsMapBelowUnder-antisym slot_exact (is_killed b.series) slot_total IsNoLater no_later_same a.entries b.entries whole_a.sorted
    whole_b.sorted
    (subst (λ (t : Lift Best). all_alive (is_killed t) a.entries ≡ true) s whole_a.alive) whole_b.alive up.1
    (subst (λ (t : Lift Best). IsMapBelowUnder (is_killed t) slot_cmp IsNoLater b.entries a.entries) s down.1) in
    λ i. record { series = s i; entries = e i }

pub of_both : (a b : UidState) → IsReduced a → IsReduced b → (c : UidState) → IsReduced c → IsUidStateBelow a c → IsUidStateBelow b c
    → ((d : UidState) → IsReduced d → IsUidStateBelow a d → IsUidStateBelow b d → IsUidStateBelow c d) → HoldsOfTwo a b c
of_both a b whole_a whole_b c whole_c above_a above_b least = elim (IsLiftedBelow-comparable IsNoLater no_later_one a.series b.series) [
  | inl up ↦ of_two a b whole_a whole_b b.series up (IsLiftedBelow-refl IsNoLater no_later_itself b.series) (inr refl) c whole_c above_a
      above_b least
  | inr down ↦ of_two a b whole_a whole_b a.series (IsLiftedBelow-refl IsNoLater no_later_itself a.series) down (inl refl) c whole_c
      above_a above_b least
]
