-- Changes of what is held of UIDs, and how they are undone.
use Rattle.std.proofs.Common.{◌≡◌, ℕ, List, [], ◌∷◌, ◌++◌, refl, sym, ◌∙◌, ap, subst, inl, inr, true, false, Option, Some, None}
use Rattle.std.specs.Prelude.{cond, is_some}
use Rattle.std.specs.List.Sorted.{IsStrictlySortedBy}
use Rattle.std.specs.Map.{keys_of}
use Rattle.std.specs.Ordering.{is_eq}
use Rattle.std.specs.Cmp.{eq_by_cmp_equiv}
use Rattle.std.proofs.lemmas.Cmp.{nat_list_cmp_total}
use Rattle.std.proofs.lemmas.Map.Lookups.{exact_bytes}
use Rattle.itip_join.specs.declared.lift.Lift.{Lift}
use Rattle.itip_join.specs.declared.lift.Lift.TheVariants.{Nothing, Known}
use Rattle.itip_join.specs.Changes.{replaced}
use Rattle.itip_join.specs.KeyByKey.{value_at, entries_from_values}
use Rattle.itip_join.specs.Killed.{found_alive}
use Rattle.itip_join.specs.Lifted.{IsLiftedBelow}
use Rattle.itip_join.specs.Optional.{IsBelowUnder}
use Rattle.itip_items.specs.declared.item.Item.{Item}
use Rattle.itip_items.specs.declared.key.Key.{Key}
use Rattle.itip_state.specs.Changes.{IsBackAt, in_place_of}
use Rattle.itip_state.specs.Joined.{IsUidStateBelow, HoldsOfTwo, IsJoinedAt}
use Rattle.itip_state.specs.Undone.{IsNoted, LeadsBack, IsUndone, AreUndone}
use Rattle.itip_state.specs.declared.hear.Before.{Before}
use Rattle.itip_state.specs.declared.hear.Before.TheVariants.{Absent, Entry}
use Rattle.itip_state.specs.declared.hear.Hearing.{Hearing}
use Rattle.itip_state.specs.DyingLaws.{IsNoLater}
use Rattle.itip_state.specs.Held.{Best, UidState, best, is_series, is_killed, alone, at, IsReduced, AreOrdered}
use Rattle.itip_state.specs.Slots.{slot_cmp, slot_total, slot_exact}
use Rattle.itip_state.proofs.Members.{by_bool}
use Rattle.itip_state.proofs.Lookups.{one_key, itself}
use Rattle.itip_state.proofs.Maps.{uid_cmp}

some_one : {X : Type 0} (x y : X) → Some x ≡ Some y → x ≡ y
some_one x y e = cc

none_some : {X : Type 0} (x : X) → None ≡ Some x → ⊥
none_some x e = cc

-- ---- one UID
-- what is noted for a key
pub noted_at : (key : Key) (held : Option Best) (w : UidState) → IsReduced w → held ≡ value_at slot_cmp w.entries key →
    IsBackAt key held w w
noted_at key held w whole is = record {
  series = refl;
  entries = λ q. by_bool (is_eq (slot_cmp key q))
      (value_at slot_cmp w.entries q ≡ cond (is_eq (slot_cmp key q)) held (value_at slot_cmp w.entries q))
      (λ k. ap (value_at slot_cmp w.entries) (sym (one_key slot_total slot_exact key q k)) ∙ sym is ∙
      sym (ap (λ b. cond b held (value_at slot_cmp w.entries q)) k))
      (λ k. sym (ap (λ b. cond b held (value_at slot_cmp w.entries q)) k));
  there = λ s. ap is_some (sym is) ∙ s;
  whole = whole;
}

-- one item alone that is not a series item
alone_other : (item : Item) → is_series item.key ≡ false → alone item ≡ record { series = Nothing; entries = (item.key, best item) ∷ [] }
alone_other item e =
    ap (λ b. cond b (record { series = Known (best item); entries = [] })
    (record { series = Nothing; entries = (item.key, best item) ∷ [] })) e

module _ (item : Item) (a c : UidState) (of : HoldsOfTwo a (alone item) c) (whole : IsReduced a) (above : IsUidStateBelow a c)
    (other : is_series item.key ≡ false) where
  series_same : c.series ≡ a.series
  series_same = elim of.series [
    | inl e ↦ e
    | inr e ↦ none_below a.series c.series (e ∙ ap (λ (sh : UidState). sh.series) (alone_other item other)) above.0
  ]
    where
      none_below : (s t : Lift Best) → t ≡ Nothing → IsLiftedBelow IsNoLater s t → t ≡ s
      none_below Nothing t e l = e
      none_below (Known s) t e l = absurd (subst (IsLiftedBelow IsNoLater (Known s)) e l)

  -- what was there is alive, so something is still there
  not_gone : (q : Key) (v : Best) → value_at slot_cmp a.entries q ≡ Some v → value_at slot_cmp c.entries q ≡ None → ⊥
  not_gone q v e n =
      let dead : is_killed c.series q v ≡ true = subst (λ (o : Option Best). IsBelowUnder (is_killed c.series q) IsNoLater (Some v) o) n
      (subst (λ (o : Option Best). IsBelowUnder (is_killed c.series q) IsNoLater o (value_at slot_cmp c.entries q)) e (above.1 q)) in
      let lives : is_killed a.series q v ≡ false = found_alive slot_exact (is_killed a.series) a.entries whole.alive q v e in
      let x : true ≡ false = sym dead ∙ ap (λ s. is_killed s q v) series_same ∙ lives in cc

  not_alone : (q : Key) (v : Best) → is_eq (slot_cmp item.key q) ≡ false → value_at slot_cmp (alone item).entries q ≡ Some v → ⊥
  not_alone q v n e =
      let flipped : is_eq (slot_cmp q item.key) ≡ false = (eq_by_cmp_equiv slot_total).symm q item.key ∙ n in
      none_some v (sym (ap (λ (sh : UidState). value_at slot_cmp sh.entries q) (alone_other item other) ∙
      ap (λ b. cond b (Some (best item)) None) flipped) ∙ e)

  apart : (q : Key) → is_eq (slot_cmp item.key q) ≡ false → (o p : Option Best) → value_at slot_cmp a.entries q ≡ o →
      value_at slot_cmp c.entries q ≡ p → o ≡ p
  apart q n None None e f = refl
  apart q n (Some v) None e f = absurd (not_gone q v e f)
  apart q n o (Some w) e f = elim (of.entries q w f) [ inl g ↦ sym e ∙ g | inr g ↦ absurd (not_alone q w n g) ]

  still : (o p : Option Best) → value_at slot_cmp a.entries item.key ≡ o → value_at slot_cmp c.entries item.key ≡ p → is_some o ≡ true →
      is_some p ≡ true
  still None p e f s = let x : false ≡ true = s in absurd (cc)
  still (Some v) None e f s = absurd (not_gone item.key v e f)
  still (Some v) (Some w) e f s = refl

  back_at : IsBackAt item.key (value_at slot_cmp a.entries item.key) c a
  back_at = record {
    series = series_same;
    entries = λ q. by_bool (is_eq (slot_cmp item.key q))
        (value_at slot_cmp a.entries q ≡ cond (is_eq (slot_cmp item.key q)) (value_at slot_cmp a.entries item.key)
        (value_at slot_cmp c.entries q))
        (λ k. ap (value_at slot_cmp a.entries) (sym (one_key slot_total slot_exact item.key q k)) ∙
        sym (ap (λ b. cond b (value_at slot_cmp a.entries item.key) (value_at slot_cmp c.entries q)) k))
        (λ k. apart q k (value_at slot_cmp a.entries q) (value_at slot_cmp c.entries q) refl refl ∙
        sym (ap (λ b. cond b (value_at slot_cmp a.entries item.key) (value_at slot_cmp c.entries q)) k));
    there = still (value_at slot_cmp a.entries item.key) (value_at slot_cmp c.entries item.key) refl refl;
    whole = whole;
  }

-- an entry that is put back where there is one
put_there : (held there : Option Best) → (is_some held ≡ true → is_some there ≡ true) → in_place_of there held ≡ held
put_there None there s = refl
put_there (Some b) (Some was) s = refl
put_there (Some b) None s = let x : false ≡ true = s refl in absurd (cc)

-- two states of a UID with the same at each key are equal
pub back_is : (key : Key) (held : Option Best) (v w z : UidState) → IsBackAt key held v w → z.series ≡ v.series →
    IsStrictlySortedBy slot_cmp (keys_of z.entries)
    → ((q : Key) → value_at slot_cmp z.entries q ≡ cond (is_eq (slot_cmp key q)) (in_place_of (value_at slot_cmp v.entries key) held)
    (value_at slot_cmp v.entries q)) → z ≡ w
back_is key held v w z is same sorted put =
    let e : z.entries ≡ w.entries = entries_from_values slot_total slot_exact z.entries w.entries sorted is.whole.sorted
    (λ q. put q ∙ ap (λ (o : Option Best). cond (is_eq (slot_cmp key q)) o (value_at slot_cmp v.entries q))
    (put_there held (value_at slot_cmp v.entries key) is.there) ∙ sym (is.entries q)) in
    let s : z.series ≡ w.series = same ∙ is.series in
    λ i. record { series = s i; entries = e i }

-- ---- one change
held_is : (key : Key) (held : Option Best) (w : UidState) → IsBackAt key held w w → value_at slot_cmp w.entries key ≡ held
held_is key held w back = back.entries key ∙ ap (λ t. cond t held (value_at slot_cmp w.entries key)) (itself slot_total slot_exact key)

pub joined_some : (o : Option UidState) (b : UidState) (n : Option UidState) → IsJoinedAt o (Some b) n → is_some n ≡ true
joined_some None b n e = ap is_some e
joined_some (Some a) b n (joined, e, j) = ap is_some e

pub noted_leads : (before : Before) (item : Item) (old now : Option UidState) → IsNoted before item old →
    IsJoinedAt old (Some (alone item)) now → LeadsBack before item now old
noted_leads Absent item old now is joined = is
noted_leads (Entry place held) item old now (w, e, back, other, here) joined =
    let all : IsJoinedAt (Some w) (Some (alone item)) now =
    subst (λ (o : Option UidState). IsJoinedAt o (Some (alone item)) now) e joined in (
      all.0,
      w,
      all.1,
      e,
      subst (λ (h : Option Best). IsBackAt item.key h all.0 w) (held_is item.key held w back)
          (back_at item w all.0 (all.2).of_two back.whole (all.2).above_first other),
      here,
    )

pub noted_stays : (before : Before) (item : Item) (old : Option UidState) → IsNoted before item old → LeadsBack before item old old
noted_stays Absent item old is = is
noted_stays (Entry place held) item old (w, e, back, other, here) = (w, w, e, e, back, here)

-- ---- a list of them
pub undone_push : (cs : List Hearing) (c : Hearing) (now mid start : List (List ℕ × UidState)) → AreUndone cs mid start →
    IsUndone c now mid → AreUndone (cs ++ c ∷ []) now start
undone_push [] c now mid start all one = (now, refl, subst (IsUndone c now) all one)
undone_push (d ∷ cs) c now mid start (m, rest, first) one = (m, undone_push cs c now mid m rest one, first)

pub undone_pop : (cs : List Hearing) (c : Hearing) (now start : List (List ℕ × UidState)) → AreUndone (cs ++ c ∷ []) now start →
    (mid : List (List ℕ × UidState)) × IsUndone c now mid × AreUndone cs mid start
undone_pop [] c now start (m, same, one) = (start, subst (λ (n : List (List ℕ × UidState)). IsUndone c n start) (sym same) one, refl)
undone_pop (d ∷ cs) c now start (m, rest, first) = let r = undone_pop cs c now m rest in (r.0, r.1, (m, r.2, first))

-- ---- a change that is undone
-- with `o` at the UID, a map is what it was before
pub undone_put : (now next before : List (List ℕ × UidState)) (k u : List ℕ) (o : Option UidState) → k ≡ u → AreOrdered next →
    AreOrdered before
    → ((q : List ℕ) → at next q ≡ cond (is_eq (uid_cmp k q)) o (at now q)) → o ≡ at before u →
    ((q : List ℕ) → is_eq (uid_cmp u q) ≡ false → at now q ≡ at before q) → next ≡ before
undone_put now next before k u o about ordered was put there others =
    entries_from_values nat_list_cmp_total exact_bytes next before ordered was
    (λ q. by_bool (is_eq (uid_cmp u q)) (at next q ≡ at before q)
    (λ e. put q ∙ ap (λ b. cond b o (at now q)) (ap (λ r. is_eq (uid_cmp r q)) about ∙ e) ∙ there ∙
    ap (at before) (one_key nat_list_cmp_total exact_bytes u q e))
    (λ n. put q ∙ ap (λ b. cond b o (at now q)) (ap (λ r. is_eq (uid_cmp r q)) about ∙ n) ∙ others q n))

pub replaced_some : (o : Option UidState) (x : UidState) → is_some o ≡ true → replaced o x ≡ Some x
replaced_some None x s = let y : false ≡ true = s in absurd (cc)
replaced_some (Some v) x s = refl

-- a value is taken out for a change: an empty one keeps its place
pub replaced_twice : (old mid now : List (List ℕ × UidState)) (u : List ℕ) (x y : UidState) → is_some (at old u) ≡ true →
    ((q : List ℕ) → at mid q ≡ cond (is_eq (uid_cmp u q)) (replaced (at old u) x) (at old q)) →
    ((q : List ℕ) → at now q ≡ cond (is_eq (uid_cmp u q)) (replaced (at mid u) y) (at mid q)) → (q : List ℕ) →
    at now q ≡ cond (is_eq (uid_cmp u q)) (Some y) (at old q)
replaced_twice old mid now u x y there first second q =
    by_bool (is_eq (uid_cmp u q)) (at now q ≡ cond (is_eq (uid_cmp u q)) (Some y) (at old q))
    (λ same. second q ∙ ap (λ b. cond b (replaced (at mid u) y) (at mid q)) same ∙
    replaced_some (at mid u) y (ap is_some (first u ∙ ap (λ b. cond b (replaced (at old u) x) (at old u))
    (itself nat_list_cmp_total exact_bytes u)
    ∙ replaced_some (at old u) x there)) ∙ sym (ap (λ b. cond b (Some y) (at old q)) same))
    (λ apart. second q ∙ ap (λ b. cond b (replaced (at mid u) y) (at mid q)) apart ∙ first q ∙
    ap (λ b. cond b (replaced (at old u) x) (at old q)) apart ∙ sym (ap (λ b. cond b (Some y) (at old q)) apart))

-- what is put at a key is there, and at no other key
pub put_at : (now next : List (List ℕ × UidState)) (k u : List ℕ) (o : Option UidState) → k ≡ u →
    ((q : List ℕ) → at next q ≡ cond (is_eq (uid_cmp k q)) o (at now q)) → at next k ≡ o
put_at now next k u o about put = put k ∙ ap (λ b. cond b o (at now k)) (itself nat_list_cmp_total exact_bytes k)

pub put_apart : (now next : List (List ℕ × UidState)) (k u : List ℕ) (o : Option UidState) → k ≡ u →
    ((q : List ℕ) → at next q ≡ cond (is_eq (uid_cmp k q)) o (at now q))
    → (q : List ℕ) → is_eq (uid_cmp u q) ≡ false → at next q ≡ at now q
put_apart now next k u o about put q n = put q ∙ ap (λ b. cond b o (at now q)) (ap (λ r. is_eq (uid_cmp r q)) about ∙ n)

pub entry_leads : (place : _) (item : Item) (held : Option Best) (now old : Option UidState) (v : UidState) → now ≡ Some v →
    LeadsBack (Entry place held) item now old → (w : UidState) × (old ≡ Some w) × IsBackAt place.now held v w
entry_leads place item held now old v e (x, w, f, g, back, here) = (
  w,
  g,
  subst (λ (k : Key). IsBackAt k held v w) (sym here)
      (subst (λ (sh : UidState). IsBackAt item.key held sh w) (some_one x v (sym f ∙ e)) back),
)

pub not_absent : (place : _) (item : Item) (held : Option Best) (now old : Option UidState) → now ≡ None →
    LeadsBack (Entry place held) item now old → ⊥
not_absent place item held now old e (x, w, f, g, back, here) = none_some x (sym e ∙ f)
