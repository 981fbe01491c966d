-- The sets of UIDs by which what can die is found, after changes of a map by UID.
use Rattle.std.proofs.Common.{◌≡◌, ◌≤◌, ◌<◌, ◌⊎◌, ℕ, List, [], ◌∷◌, refl, sym, ◌∙◌}
use Rattle.std.proofs.Common.{ap, subst, inl, inr, Bool, true, false, Option, Some, None, arith}
use Rattle.std.specs.Prelude.{cond, ◌&&◌, nat_lt}
use Rattle.std.specs.BTreeMap.{BTreeMap, get, Updates}
use Rattle.std.specs.Ordering.{is_eq}
use Rattle.std.proofs.lemmas.Bool.Decides.{nat_tests}
use Rattle.std.proofs.lemmas.Cmp.{nat_list_cmp_total}
use Rattle.std.proofs.lemmas.Map.Lookups.{exact_bytes}
use Rattle.itip_join.specs.KeyByKey.{value_at}
use Rattle.itip_join.specs.Optional.{IsBelowUnder}
use Rattle.itip_join.specs.Killed.{found_alive}
use Rattle.itip_join.specs.declared.lift.Lift.{Lift}
use Rattle.itip_join.specs.declared.lift.Lift.TheVariants.{Nothing, Known}
use Rattle.itip_items.specs.KeyParts.{uid_of}
use Rattle.itip_items.specs.declared.item.Item.{Item}
use Rattle.itip_items.specs.declared.key.Key.{Key}
use Rattle.itip_items.specs.declared.key.Key.TheVariants.{Series, Instance, Range, Answer, Refresh}
use Rattle.itip_state.specs.Slots.{slot_cmp, slot_total, slot_exact}
use Rattle.itip_state.specs.Held.{Best, UidState, best, is_series, can_die, is_killed, alone, at, series_alone}
use Rattle.itip_state.specs.Joined.{IsJoined, IsJoinedAt}
use Rattle.itip_state.specs.DyingLaws.{IsNoLater, eff_up_to, less_from}
use Rattle.itip_state.specs.Due.{DueSet, has, IsDue, AreDue, AreDueIn, AreTracked, IsFollowed}
use Rattle.itip_state.proofs.Members.{by_bool}
use Rattle.itip_state.proofs.Lookups.{one_key, itself}
use Rattle.itip_state.proofs.Maps.{uid_cmp}

some_one : {X : Type 0} (x y : X) → Some x ≡ Some y → x ≡ y
some_one x y e = cc

none_some : {X : Type 0} (x : X) → None ≡ Some x → ⊥
none_some x e = cc

differ : true ≡ false → ⊥
differ e = cc

abbrev pub Sets : Type 0
Sets = BTreeMap (List ℕ) DueSet

-- ---- one UID
abbrev entry_alone : Item → UidState
entry_alone i = record { series = Nothing; entries = (i.key, best i) ∷ [] }

-- what is held if one item alone was heard is that item at its key
alone_at : (item : Item) (key : Key) (b : Best) → value_at slot_cmp (alone item).entries key ≡ Some b →
    (key ≡ item.key) × (b ≡ best item)
alone_at item key b e = by_bool (is_series item.key) ((key ≡ item.key) × (b ≡ best item))
    (λ series. absurd (none_some b (sym (ap (λ t. value_at slot_cmp (cond t (series_alone (best item)) (entry_alone item)).entries key)
    series) ∙ e)))
    (λ not. by_bool (is_eq (slot_cmp key item.key)) ((key ≡ item.key) × (b ≡ best item))
    (λ same. (
      one_key slot_total slot_exact key item.key same,
      sym (some_one (best item) b (sym (found not ∙ ap (λ t. cond t (Some (best item)) None) same) ∙ e)),
    ))
    (λ apart. absurd (none_some b (sym (found not ∙ ap (λ t. cond t (Some (best item)) None) apart) ∙ e))))
  where
    found : is_series item.key ≡ false → value_at slot_cmp (alone item).entries key ≡ cond (is_eq (slot_cmp key item.key))
        (Some (best item)) None
    found not = ap (λ t. value_at slot_cmp (cond t (series_alone (best item)) (entry_alone item)).entries key) not

-- what is dead is below what is alive, by its sequence
killed_low : (s : Lift Best) (key : Key) (c b : Best) → is_killed s key c ≡ true → is_killed s key b ≡ false → c.value.eff ≤ b.value.eff
killed_low Nothing key c b dead alive = let x : false ≡ true = dead in absurd (cc)
killed_low (Known s) key c b dead alive = parts (can_die key) dead alive
  where
    parts : (can : Bool) → (can && nat_lt c.value.eff s.value.eff) ≡ true → (can && nat_lt b.value.eff s.value.eff) ≡ false →
        c.value.eff ≤ b.value.eff
    parts false d a = let x : false ≡ true = d in absurd (cc)
    parts true d a =
        let low : c.value.eff < s.value.eff = less_from c.value.eff s.value.eff d in
        let high : s.value.eff ≤ b.value.eff = not_less b.value.eff s.value.eff a in
        omega (arith, low, high)
      where
        not_less : (m n : ℕ) → nat_lt m n ≡ false → n ≤ m
        not_less m n h = grind (arith, nat_tests)

below_eff : (s : Lift Best) (key : Key) (c b : Best) → is_killed s key b ≡ false → (is_killed s key c ≡ true) ⊎ IsNoLater c b →
    c.value.eff ≤ b.value.eff
below_eff s key c b alive (inl dead) = killed_low s key c b dead alive
below_eff s key c b alive (inr up) = eff_up_to c.value b.value up

-- what was held at a key, and what came there, is no later than what is held now, unless it is dead
module _ (held now : UidState) (item : Item) (was set : DueSet) (joined : IsJoined held (alone item) now) (are : AreDue was held.entries)
    (keeps : (pair : ℕ × Key) → has was pair ≡ true → has set pair ≡ true)
    (new : value_at slot_cmp held.entries item.key ≡ None → can_die item.key ≡ true → has set (item.eff, item.key) ≡ true) where
  kept_due : (key : Key) (b : Best) → IsDue was key b → IsDue set key b
  kept_due key b d = record { sequence = d.sequence; not_above = d.not_above; there = keeps (d.sequence, key) d.there }

  -- the item itself is held now
  of_item : (key : Key) (b : Best) → value_at slot_cmp now.entries key ≡ Some b → can_die key ≡ true → key ≡ item.key → b ≡ best item →
      IsDue set key b
  of_item key b at_now can key_is b_is = by (value_at slot_cmp held.entries item.key) refl
    where
      by : (o : Option Best) → value_at slot_cmp held.entries item.key ≡ o → IsDue set key b
      by None none = record {
        sequence = item.eff;
        not_above = let e : b.value.eff ≡ item.eff = ap (λ (x : Best). x.value.eff) b_is in omega (arith, e);
        there = ap (λ (k : Key). has set (item.eff, k)) key_is ∙ new none (ap can_die (sym key_is) ∙ can);
      }
      by (Some c) some =
          let before : value_at slot_cmp held.entries key ≡ Some c = ap (value_at slot_cmp held.entries) key_is ∙ some in
          let d = are key c before can in
          let low : c.value.eff ≤ b.value.eff = below_eff now.series key c b
          (found_alive slot_exact (is_killed now.series) now.entries joined.whole.alive key b at_now)
          (subst (λ (o : Option Best). IsBelowUnder (is_killed now.series key) IsNoLater o (Some b)) before
          (subst (λ (o : Option Best). IsBelowUnder (is_killed now.series key) IsNoLater (value_at slot_cmp held.entries key) o) at_now
          (joined.above_first.1 key))) in
          let under : d.sequence ≤ c.value.eff = d.not_above in
          record { sequence = d.sequence; not_above = omega (arith, low, under); there = keeps (d.sequence, key) d.there }

  pub followed_due : AreDue set now.entries
  followed_due key b at_now can = elim (joined.of_two.entries key b at_now) [
    | inl before ↦ kept_due key b (are key b before can)
    | inr came ↦ let one = alone_at item key b came in of_item key b at_now can one.0 one.1
  ]

-- ---- all UIDs
module _ (u : List ℕ) (was sets : Sets) (held now : List (List ℕ × UidState)) (tracked : AreTracked was held)
    (sets_apart : (q : List ℕ) → is_eq (uid_cmp u q) ≡ false → get uid_cmp sets q ≡ get uid_cmp was q)
    (held_apart : (q : List ℕ) → is_eq (uid_cmp u q) ≡ false → at now q ≡ at held q) where
  -- the UIDs to which nothing happens stay as they are
  pub tracked_but : ((set : DueSet) (state : UidState) → get uid_cmp sets u ≡ Some set → at now u ≡ Some state → AreDue set state.entries) →
      AreTracked sets now
  tracked_but here q set state s e = by_bool (is_eq (uid_cmp u q)) (AreDue set state.entries)
      (λ same.
      let one : u ≡ q = one_key nat_list_cmp_total exact_bytes u q same in
      here set state (ap (get uid_cmp sets) one ∙ s) (ap (at now) one ∙ e))
      (λ apart. tracked q set state (sym (sets_apart q apart) ∙ s) (sym (held_apart q apart) ∙ e))

  -- a UID without a set
  pub tracked_none : get uid_cmp sets u ≡ None → AreTracked sets now
  tracked_none none = tracked_but (λ set state s e. absurd (none_some set (sym none ∙ s)))

-- what is asked of the set of a UID, once what is held of the UID is another state
due_in : (o : Option DueSet) (state : UidState) (set : DueSet) → AreDueIn o state.entries → o ≡ Some set → AreDue set state.entries
due_in o state set are e = subst (λ (p : Option DueSet). AreDueIn p state.entries) e are

-- the set of a UID of which this is held
pub set_of : (u : List ℕ) (was : Sets) (held : List (List ℕ × UidState)) → AreTracked was held → (o : Option DueSet) →
    o ≡ get uid_cmp was u →
    (state : UidState) → at held u ≡ Some state → AreDueIn o state.entries
set_of u was held tracked None is state e = tt
set_of u was held tracked (Some set) is state e = tracked u set state (sym is) e

-- the set of a UID is removed, and something else is held of the UID
module _ (u : List ℕ) (was mid : Sets) (held now : List (List ℕ × UidState)) (tracked : AreTracked was held) (o : Option UidState)
    (put : (q : List ℕ) → at now q ≡ cond (is_eq (uid_cmp u q)) o (at held q)) where
  held_apart : (q : List ℕ) → is_eq (uid_cmp u q) ≡ false → at now q ≡ at held q
  held_apart q n = put q ∙ ap (λ b. cond b o (at held q)) n

  put_here : at now u ≡ o
  put_here = put u ∙ ap (λ b. cond b o (at held u)) (itself nat_list_cmp_total exact_bytes u)

  pub tracked_put : Updates uid_cmp was mid u None → AreTracked mid now
  tracked_put out = tracked_none u was mid held now tracked out.2 held_apart out.1

  -- nothing is held there any more
  pub tracked_gone : o ≡ None → AreTracked was now
  tracked_gone none = tracked_but u was was held now tracked (λ q n. refl) held_apart
      (λ set state s e. absurd (none_some state (sym none ∙ sym put_here ∙ e)))

  -- and another set is kept, if there is one and the memory for it
  module _ (sets : Sets) (out : Updates uid_cmp was mid u None)
      (others : (q : List ℕ) → is_eq (uid_cmp u q) ≡ false → get uid_cmp sets q ≡ get uid_cmp mid q) (due : Option DueSet)
      (here : (get uid_cmp sets u ≡ due) ⊎ (get uid_cmp sets u ≡ get uid_cmp mid u)) (state : UidState) (is : o ≡ Some state)
      (are : AreDueIn due state.entries) where
    pub tracked_kept : AreTracked sets now
    tracked_kept = tracked_but u was sets held now tracked (λ q n. others q n ∙ out.2 q n) held_apart
        (λ set st s e. elim here [
          | inl kept ↦ subst (λ (t : UidState). AreDue set t.entries) (some_one state st (sym is ∙ sym put_here ∙ e))
              (due_in due state set are (sym kept ∙ s))
          | inr none ↦ absurd (none_some set (sym out.1 ∙ sym none ∙ s))
        ])

-- ---- an item comes
pub kept_follows : (a : UidState) (item : Item) (was : DueSet) (set now : Option DueSet) → IsFollowed (Some a) item (Some was) set →
    (now ≡ set) ⊎ (now ≡ None) → IsFollowed (Some a) item (Some was) now
kept_follows a item was set now f (inl same) = subst (IsFollowed (Some a) item (Some was)) (sym same) f
kept_follows a item was set now f (inr none) = subst (IsFollowed (Some a) item (Some was)) (sym none) tt

followed_parts : (o : Option UidState) (w : Option DueSet) (item : Item) (set : DueSet) → IsFollowed o item w (Some set) →
    (a : UidState) × (was : DueSet) × (o ≡ Some a) × (w ≡ Some was) × IsFollowed (Some a) item (Some was) (Some set)
followed_parts None w item set f = absurd f
followed_parts (Some a) None item set f = absurd f
followed_parts (Some a) (Some was) item set f = (a, was, refl, refl, f)

module _ (item : Item) (was sets : Sets) (held now : List (List ℕ × UidState)) (tracked : AreTracked was held)
    (followed : IsFollowed (at held (uid_of item.key)) item (get uid_cmp was (uid_of item.key)) (get uid_cmp sets (uid_of item.key))) where
  parts : (set : DueSet) → get uid_cmp sets (uid_of item.key) ≡ Some set →
      (a : UidState) × (w : DueSet) × (at held (uid_of item.key) ≡ Some a) × (get uid_cmp was (uid_of item.key) ≡ Some w) ×
      IsFollowed (Some a) item (Some w) (Some set)
  parts set s = followed_parts (at held (uid_of item.key)) (get uid_cmp was (uid_of item.key)) item set
      (subst (IsFollowed (at held (uid_of item.key)) item (get uid_cmp was (uid_of item.key))) s followed)

  pub tracked_with : IsJoinedAt (at held (uid_of item.key)) (Some (alone item)) (at now (uid_of item.key)) →
      (set : DueSet) (state : UidState) →
      get uid_cmp sets (uid_of item.key) ≡ Some set → at now (uid_of item.key) ≡ Some state → AreDue set state.entries
  tracked_with joined set state s e =
      let p = parts set s in
      let r : IsJoinedAt (Some p.0) (Some (alone item)) (at now (uid_of item.key)) =
      subst (λ o. IsJoinedAt o (Some (alone item)) (at now (uid_of item.key))) p.2 joined in
      let is : IsJoined p.0 (alone item) state = subst (IsJoined p.0 (alone item)) (some_one r.0 state (sym r.1 ∙ e)) r.2 in
      followed_due p.0 state item p.1 set is (tracked (uid_of item.key) p.1 p.0 p.3 p.2) p.4.0 p.4.1

  -- if an allocation fails, all stays
  pub tracked_same : now ≡ held → ((q : List ℕ) → is_eq (uid_cmp (uid_of item.key) q) ≡ false → get uid_cmp sets q ≡ get uid_cmp was q) →
      AreTracked sets now
  tracked_same same others = subst (AreTracked sets) (sym same) (tracked_but (uid_of item.key) was sets held held tracked
      others (λ q n. refl)
      (λ set state s e.
      let p = parts set s in
      λ key b at_key can.
      let d = tracked (uid_of item.key) p.1 p.0 p.3 p.2 key b
      (sym (ap (λ (st : UidState). value_at slot_cmp st.entries key) (some_one state p.0 (sym e ∙ p.2))) ∙ at_key) can in
      record { sequence = d.sequence; not_above = d.not_above; there = p.4.0 (d.sequence, key) d.there }))

-- no set at all
pub tracked_nothing : (sets : Sets) (held : List (List ℕ × UidState)) → ((q : List ℕ) → get uid_cmp sets q ≡ None) → AreTracked sets held
tracked_nothing sets held none q set state s e = absurd (none_some set (sym (none q) ∙ s))

-- ---- a series item can't die
pub series_stays : (key : Key) → is_series key ≡ true → can_die key ≡ false
series_stays (Series uid) e = refl
series_stays (Instance uid id) e = let x : false ≡ true = e in absurd (cc)
series_stays (Range uid id) e = let x : false ≡ true = e in absurd (cc)
series_stays (Answer uid id attendee) e = let x : false ≡ true = e in absurd (cc)
series_stays (Refresh uid id attendee) e = let x : false ≡ true = e in absurd (cc)
