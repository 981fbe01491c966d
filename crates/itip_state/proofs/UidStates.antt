-- What is held of one UID: a state, and when it tells no more than another.
use Rattle.std.proofs.Common.{◌≡◌, ℕ, List, [], ◌∷◌, refl, sym, ◌∙◌, ap, subst, inl, inr, true, false, Option, Some, None}
use Rattle.std.specs.Prelude.{cond}
use Rattle.std.specs.List.{Contains, AllByRecursion}
use Rattle.std.specs.List.Sorted.{IsStrictlySortedBy}
use Rattle.std.specs.Map.{keys_of}
use Rattle.std.specs.Ordering.{is_eq}
use Rattle.std.proofs.lemmas.List.Elements.{Contains-append_cases, Contains-append_left, Contains-append_right}
use Rattle.std.proofs.lemmas.Map.Keys.{sorted_tail}
use Rattle.itip_join.specs.declared.lift.Lift.{Lift}
use Rattle.itip_join.specs.declared.lift.Lift.TheVariants.{Nothing, Known}
use Rattle.itip_join.specs.KeyByKey.{value_at}
use Rattle.itip_join.specs.Killed.{found_alive}
use Rattle.itip_items.specs.KeyParts.{uid_of}
use Rattle.itip_items.specs.RevisionOrder.{IsLater}
use Rattle.itip_items.specs.declared.item.Item.{Item}
use Rattle.itip_items.specs.declared.key.Key.{Key}
use Rattle.itip_items.specs.declared.key.Key.TheVariants.{Series}
use Rattle.itip_state.specs.Kept.{IsDead, CanDie}
use Rattle.itip_state.specs.Order.{IsState}
use Rattle.itip_state.specs.Slots.{slot_cmp, slot_total, slot_exact}
use Rattle.itip_state.specs.Held.{Best, UidState, best, is_series, is_killed, kills, series_items, entry_items, uid_state_items, IsSeriesAt}
use Rattle.itip_state.specs.Held.{IsEntryAt, IsSound, IsHeldAs}
use Rattle.itip_state.proofs.Members.{by_bool, none_in, cons_cases, cons_first, cons_later}
use Rattle.itip_state.proofs.Lookups.{at_head, from_tail, value_from_all}
use Rattle.itip_state.proofs.Best.{not_later_itself}
use Rattle.itip_state.proofs.Tests.{series_key, can, dead_under, killed, kill}

abbrev pub AreSorted : List (Key × Best) → Type 0
AreSorted es = IsStrictlySortedBy slot_cmp (keys_of es)

-- ---- entries
pub entry_in : (es : List (Key × Best)) (q : Key) (b : Best) → value_at slot_cmp es q ≡ Some b → Contains (entry_items es) b.value
entry_in [] q b e = let x : None ≡ Some b = e in absurd (cc)
entry_in (f ∷ fs) q b e =
    elim (is_eq (slot_cmp q f.0)) as (λ t. cond t (Some f.1) (value_at slot_cmp fs q) ≡ Some b → Contains (entry_items (f ∷ fs)) b.value) [
      | true ↦ λ s. let one : f.1 ≡ b = some_one f.1 b s in
          subst (λ (x : Best). Contains (f.1.value ∷ entry_items fs) x.value) one (cons_first f.1.value (entry_items fs))
      | false ↦ λ s. cons_later f.1.value (entry_items fs) b.value (entry_in fs q b s)
    ] e
  where
    some_one : (x y : Best) → Some x ≡ Some y → x ≡ y
    some_one x y s = cc

pub entry_there : (uid : List ℕ) (es : List (Key × Best)) → AreSorted es → AllByRecursion (λ e. IsEntryAt uid e.0 e.1) es → (i : Item) →
    Contains (entry_items es) i
    → value_at slot_cmp es i.key ≡ Some (best i) × IsEntryAt uid i.key (best i)
entry_there uid [] s p i h = absurd (none_in i h)
entry_there uid (f ∷ fs) s p i h =
    elim (cons_cases f.1.value (entry_items fs) i h) [
      | inl same ↦
          let here : f.0 ≡ i.key = sym p.0.in_place ∙ ap (λ (j : Item). j.key) same in
          let what : f.1 ≡ best i = λ x. record { value = same x } in (
            subst (λ (q : Key). value_at slot_cmp (f ∷ fs) q ≡ Some (best i)) here (at_head slot_total slot_exact f fs ∙ ap Some what),
            subst (λ (q : Key). IsEntryAt uid q (best i)) here (subst (λ (b : Best). IsEntryAt uid f.0 b) what p.0),
          )
      | inr rest ↦ let r = entry_there uid fs (sorted_tail slot_cmp f.0 (keys_of fs) s) p.1 i rest in
          (from_tail slot_total slot_exact f fs i.key (best i) s r.0, r.1)
    ]

-- ---- one UID
pub known_items : (s : Lift Best) (i : Item) → Contains (series_items s) i → s ≡ Known (best i)
known_items Nothing i h = absurd (none_in i h)
known_items (Known s) i h =
    elim (cons_cases s.value [] i h) [ inl same ↦ λ x. Known (record { value = same x }) | inr none ↦ absurd (none_in i none) ]

module _ (uid : List ℕ) (sh : UidState) (sound : IsSound uid sh) where
  pub known_key : (i : Item) → sh.series ≡ Known (best i) → i.key ≡ Series uid
  known_key i e = subst (IsSeriesAt uid) e sound.placed.series

  pub held_as : (i : Item) → Contains (uid_state_items sh) i → IsHeldAs sh i
  held_as i h = elim (Contains-append_cases (series_items sh.series) (entry_items sh.entries) i h) [
    | inl first ↦ let e = known_items sh.series i first in inl (e, ap is_series (known_key i e))
    | inr other ↦ let r = entry_there uid sh.entries sound.whole.sorted sound.placed.entries i other in inr (r.0, r.1.other)
  ]

  pub series_held : (i : Item) → sh.series ≡ Known (best i) → Contains (uid_state_items sh) i
  series_held i e = Contains-append_left (series_items sh.series) (entry_items sh.entries) i
      (subst (λ (s : Lift Best). Contains (series_items s) i) (sym e) (cons_first i []))

  pub entry_held : (q : Key) (b : Best) → value_at slot_cmp sh.entries q ≡ Some b → Contains (uid_state_items sh) b.value
  entry_held q b e = Contains-append_right (series_items sh.series) (entry_items sh.entries) b.value (entry_in sh.entries q b e)

  pub entry_key : (q : Key) (b : Best) → value_at slot_cmp sh.entries q ≡ Some b → IsEntryAt uid q b
  entry_key q b e = value_from_all slot_total slot_exact (λ f. IsEntryAt uid f.0 f.1) sh.entries sound.placed.entries q b e

  pub about : (i : Item) → Contains (uid_state_items sh) i → uid_of i.key ≡ uid
  about i h = elim (Contains-append_cases (series_items sh.series) (entry_items sh.entries) i h) [
    | inl first ↦ ap uid_of (known_key i (known_items sh.series i first))
    | inr other ↦ (entry_there uid sh.entries sound.whole.sorted sound.placed.entries i other).1.about
  ]

  pub series_is : (i : Item) → Contains (uid_state_items sh) i → is_series i.key ≡ true → sh.series ≡ Known (best i)
  series_is i h e = elim (held_as i h) [ inl here ↦ here.0 | inr other ↦ let x : true ≡ false = sym e ∙ other.1 in absurd (cc) ]

  pub entry_is : (i : Item) → Contains (uid_state_items sh) i → is_series i.key ≡ false → value_at slot_cmp sh.entries i.key ≡ Some (best i)
  entry_is i h e = elim (held_as i h) [ inl here ↦ let x : true ≡ false = sym here.1 ∙ e in absurd (cc) | inr other ↦ other.0 ]

  pub one_of_key : (i j : Item) → Contains (uid_state_items sh) i → Contains (uid_state_items sh) j → i.key ≡ j.key → i ≡ j
  one_of_key i j h g same = by_bool (is_series i.key) (i ≡ j)
      (λ e. one_known i j (sym (series_is i h e) ∙ series_is j g (ap is_series (sym same) ∙ e)))
      (λ e. one_entry i j (sym (entry_is i h e) ∙ ap (λ k. value_at slot_cmp sh.entries k) same ∙
      entry_is j g (ap is_series (sym same) ∙ e)))
    where
      item_of : Lift Best → Item
      item_of Nothing = i
      item_of (Known b) = b.value

      item_at : Option Best → Item
      item_at None = i
      item_at (Some b) = b.value

      one_known : (x y : Item) → Known (best x) ≡ Known (best y) → x ≡ y
      one_known x y e = ap item_of e

      one_entry : (x y : Item) → Some (best x) ≡ Some (best y) → x ≡ y
      one_entry x y e = ap item_at e

  pub not_killed : (i : Item) → Contains (uid_state_items sh) i → is_series i.key ≡ false → kills sh.series i.key i ≡ false
  not_killed i h e = found_alive slot_exact (is_killed sh.series) sh.entries sound.whole.alive i.key (best i) (entry_is i h e)

  pub is_state : IsState (uid_state_items sh)
  is_state i = (
    λ h. record {
      best = record {
        is_heard = h;
        about = refl;
        none_later =
            λ j g same. subst (λ (x : Item). ¬ IsLater x i) (sym (one_of_key j i g h same)) (not_later_itself i);
      };
      alive = λ dead. by_bool (is_series i.key) ⊥
          (λ e. subst CanDie (series_key i.key e) dead.can_die)
          (λ e. let known : sh.series ≡ Known (best dead.series) =
          series_is dead.series dead.best.is_heard (ap is_series dead.best.about) in
          let x : true ≡ false = sym (kill dead.series i.key i (can i.key dead.can_die) dead.below) ∙
          sym (ap (λ s. kills s i.key i) known) ∙ not_killed i h e in cc);
    },
    λ kept. kept.best.is_heard,
  )

  -- the items of the UID alone can be dead here
  pub killed_is_dead : (all : List Item) → ((j : Item) → Contains (uid_state_items sh) j → Contains all j) → (i : Item) →
      uid_of i.key ≡ uid → kills sh.series i.key i ≡ true → IsDead all i
  killed_is_dead all among i of_uid k = by sh.series refl k
    where
      by : (s : Lift Best) → sh.series ≡ s → kills s i.key i ≡ true → IsDead all i
      by Nothing e d = let x : false ≡ true = d in absurd (cc)
      by (Known s) e d =
          let parts = killed s.value i.key i d in
          let here : Contains (uid_state_items sh) s.value = series_held s.value e in
          dead_under all s.value i (among s.value here) (known_key s.value e ∙ ap Series (sym of_uid)) parts.0 parts.1
