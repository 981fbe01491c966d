-- What is held of a UID tells no more than what another state holds of it exactly if hearing it adds nothing.
use Rattle.std.proofs.Common.{◌≡◌, ℕ, List, ◌++◌, ◌<◌, ◌≤◌, refl, sym, ◌∙◌, ap, subst, ◌⊎◌, inl, inr, true, false, arith, Option, Some}
use Rattle.std.proofs.Common.{None, nat_lt}
use Rattle.std.specs.List.{Contains}
use Rattle.std.proofs.lemmas.Bool.Decides.{nat_tests}
use Rattle.std.proofs.lemmas.List.Elements.{Contains-append_cases, Contains-append_left, Contains-append_right}
use Rattle.itip_join.specs.declared.lift.Lift.{Lift}
use Rattle.itip_join.specs.declared.lift.Lift.TheVariants.{Nothing, Known}
use Rattle.itip_join.specs.KeyByKey.{value_at}
use Rattle.itip_join.specs.Optional.{IsBelowUnder}
use Rattle.itip_join.specs.Lifted.{IsLiftedBelow}
use Rattle.itip_join.specs.Ranked.{IsUpTo}
use Rattle.itip_items.specs.KeyParts.{uid_of}
use Rattle.itip_items.specs.RevisionOrder.{IsLater, revision_cmp}
use Rattle.itip_items.specs.declared.item.Item.{Item}
use Rattle.itip_items.specs.declared.key.Key.{Key}
use Rattle.itip_items.specs.declared.key.Key.TheVariants.{Series}
use Rattle.itip_state.specs.Kept.{IsBest, IsDead, IsKept, AreKept}
use Rattle.itip_state.specs.Slots.{slot_cmp}
use Rattle.itip_state.specs.Held.{Best, UidState, best, is_series, can_die, is_killed, kills, uid_state_items, IsSound}
use Rattle.itip_state.specs.DyingLaws.{IsNoLater, eff_up_to, less_from}
use Rattle.itip_state.specs.Joined.{IsUidStateBelow}
use Rattle.itip_state.proofs.Members.{by_bool}
use Rattle.itip_state.proofs.Best.{best_above, not_later_itself, later_transitive, greater_eff}
use Rattle.itip_state.proofs.Later.{up_to_not_later, not_later_up_to, neither_later}
use Rattle.itip_state.proofs.Keeping.{series_kept}
use Rattle.itip_state.proofs.Tests.{series_key, can, killed, kill}
use Rattle.itip_state.proofs.UidStates.{held_as, series_held, entry_held, entry_key, known_key, about, series_is, entry_is, one_of_key}
use Rattle.itip_state.proofs.UidStates.{not_killed, is_state, killed_is_dead}

-- if no item can be dead, none is killed
abbrev pub IsToldBy : UidState → Item → Type 0
IsToldBy b j = ((w : Item) × Contains (uid_state_items b) w × (w.key ≡ j.key) × IsUpTo revision_cmp j w) ⊎ (kills b.series j.key j ≡ true)

pub series_lives : (s : Lift Best) (key : Key) (i : Item) → is_series key ≡ true → kills s key i ≡ true → ⊥
series_lives Nothing key i e d = let x : false ≡ true = d in cc
series_lives (Known s) key i e d =
    let c : can_die (Series (uid_of key)) ≡ true = ap can_die (sym (series_key key e)) ∙ (killed s.value key i d).0 in
    let x : false ≡ true = c in cc

module _ (uid : List ℕ) (a b : UidState) (sound_a : IsSound uid a) (sound_b : IsSound uid b) where
  abbrev x : List Item
  x = uid_state_items a

  abbrev z : List Item
  z = uid_state_items b

  by_series : (j : Item) → j.key ≡ Series uid → (s : Lift Best) → b.series ≡ s → IsLiftedBelow IsNoLater (Known (best j)) s → IsToldBy b j
  by_series j key Nothing e l = absurd l
  by_series j key (Known w) e l = inl (w.value, series_held uid b sound_b w.value e, known_key uid b sound_b w.value e ∙ sym key, l)

  by_entry : (j : Item) (o : Option Best) → value_at slot_cmp b.entries j.key ≡ o →
      IsBelowUnder (is_killed b.series j.key) IsNoLater (Some (best j)) o → IsToldBy b j
  by_entry j None e d = inr d
  by_entry j (Some w) e (inl d) = inr d
  by_entry j (Some w) e (inr l) = inl (w.value, entry_held uid b sound_b j.key w e, (entry_key uid b sound_b j.key w e).in_place, l)

  -- what one tells, the other tells too, or it is dead there
  pub told : IsUidStateBelow a b → (j : Item) → Contains x j → IsToldBy b j
  told le j h = elim (held_as uid a sound_a j h) [
    | inl first ↦ by_series j (known_key uid a sound_a j first.0) b.series refl
        (subst (λ (s : Lift Best). IsLiftedBelow IsNoLater s b.series) first.0 le.0)
    | inr other ↦ by_entry j (value_at slot_cmp b.entries j.key) refl
        (subst (λ (o : Option Best). IsBelowUnder (is_killed b.series j.key) IsNoLater o (value_at slot_cmp b.entries j.key)) other.0
        (le.1 j.key))
  ]

  -- nothing that is told is later than what the other holds of its key
  told_no_later : (j : Item) → IsToldBy b j → (i : Item) → Contains z i → j.key ≡ i.key → ¬ IsLater j i
  told_no_later j (inl (w, there, key, up)) i h same later =
      up_to_not_later j w up (subst (λ (y : Item). IsLater j y) (sym (one_of_key uid b sound_b w i there h (key ∙ same))) later)
  told_no_later j (inr d) i h same later =
      by_bool (is_series i.key) ⊥
      (λ e. series_lives b.series j.key j (ap is_series same ∙ e) d)
      (λ e. by b.series refl d (not_killed uid b sound_b i h e))
    where
      by : (s : Lift Best) → b.series ≡ s → kills s j.key j ≡ true → kills b.series i.key i ≡ false → ⊥
      by Nothing e k n = let y : false ≡ true = k in cc
      by (Known s) e k n =
          let parts = killed s.value j.key j k in
          by_bool (kills (Known s) i.key i) ⊥
          (λ t. let y : true ≡ false = sym t ∙ sym (ap (λ (r : Lift Best). kills r i.key i) e) ∙ n in cc)
          (λ f. not_later_itself i (later_transitive i j i (greater_eff i j (high s.value parts.0 parts.1 f)) later))
        where
          less_than : (m n : ℕ) → j.eff < n → nat_lt m n ≡ false → j.eff < m
          less_than m n low over = grind (arith, nat_tests)

          high : (t : Item) → can_die j.key ≡ true → j.eff < t.eff → kills (Known (best t)) i.key i ≡ false → j.eff < i.eff
          high t c low f = by_bool (nat_lt i.eff t.eff) (j.eff < i.eff)
              (λ under. let y : true ≡ false = sym (kill t i.key i (ap can_die (sym same) ∙ c) (less_from i.eff t.eff under)) ∙ f in
              absurd (cc))
              (λ over. less_than i.eff t.eff low over)

  -- a series item that is told has one above it
  told_series : IsUidStateBelow a b → (t : Item) → Contains (x ++ z) t → t.key ≡ Series uid → (s : Item) × Contains z s ×
      (s.key ≡ Series uid) × (t.eff ≤ s.eff)
  told_series le t h key = elim (Contains-append_cases x z t h) [
    | inl left ↦ by (told le t left)
    | inr right ↦ (t, right, key, omega arith)
  ]
    where
      by : IsToldBy b t → (s : Item) × Contains z s × (s.key ≡ Series uid) × (t.eff ≤ s.eff)
      by (inl (w, there, same, up)) = (w, there, same ∙ key, eff_up_to t w up)
      by (inr d) = absurd (series_lives b.series t.key t (ap is_series key) d)

  pub below_kept : IsUidStateBelow a b → AreKept z (x ++ z)
  below_kept le i = (up, down)
    where
      up : Contains z i → IsKept (x ++ z) i
      up h = record {
        best = record {
          is_heard = Contains-append_right x z i h;
          about = refl;
          none_later = λ j g same. elim (Contains-append_cases x z j g) [
            | inl left ↦ told_no_later j (told le j left) i h same
            | inr right ↦ ((is_state uid b sound_b i).0 h).best.none_later j right same
          ];
        };
        alive = λ dead.
            let of_uid : uid_of i.key ≡ uid = about uid b sound_b i h in
            let s = told_series le dead.series dead.best.is_heard (dead.best.about ∙ ap Series of_uid) in
            let kept = (is_state uid b sound_b s.0).0 s.1 in
            let low : i.eff < dead.series.eff = dead.below in
            let high : dead.series.eff ≤ (s.0).eff = s.3 in
            ((is_state uid b sound_b i).0 h).alive (record {
              can_die = dead.can_die;
              series = s.0;
              best = subst (λ (k : Key). IsBest z k s.0) (s.2 ∙ ap Series (sym of_uid)) kept.best;
              below = omega arith;
            });
      }

      down : IsKept (x ++ z) i → Contains z i
      down kept = elim (Contains-append_cases x z i kept.best.is_heard) [
        | inl left ↦ by left (told le i left)
        | inr right ↦ right
      ]
        where
          by : Contains x i → IsToldBy b i → Contains z i
          by left (inl (w, there, same, up_to)) =
              let one : w ≡ i = neither_later w i (kept.best.none_later w (Contains-append_right x z w there) same)
              (up_to_not_later i w up_to) in
              subst (Contains z) one there
          by left (inr d) = absurd (kept.alive
              (killed_is_dead uid b sound_b (x ++ z) (Contains-append_right x z) i (about uid a sound_a i left) d))

  -- ---- and back
  series_in : AreKept z (x ++ z) → (t : Item) → IsBest (x ++ z) (Series uid) t → b.series ≡ Known (best t)
  series_in kept t is = series_is uid b sound_b t ((kept t).1 (series_kept (x ++ z) uid t is)) (ap is_series is.about)

  pub kept_below : AreKept z (x ++ z) → IsUidStateBelow a b
  kept_below kept = (series_below a.series refl, λ k. entry_below k (value_at slot_cmp a.entries k) refl)
    where
      series_below : (s : Lift Best) → a.series ≡ s → IsLiftedBelow IsNoLater s b.series
      series_below Nothing e = tt
      series_below (Known s) e =
          let here : Contains x s.value = series_held uid a sound_a s.value e in
          let found = best_above (x ++ z) s.value (Contains-append_left x z s.value here) in
          let key : s.value.key ≡ Series uid = known_key uid a sound_a s.value e in
          let is : IsBest (x ++ z) (Series uid) found.0 = subst (λ (k : Key). IsBest (x ++ z) k found.0) key found.1 in
          subst (λ (t : Lift Best). IsLiftedBelow IsNoLater (Known s) t) (sym (series_in kept found.0 is))
          (not_later_up_to s.value found.0 (is.none_later s.value (Contains-append_left x z s.value here) key))

      entry_below : (k : Key) (o : Option Best) → value_at slot_cmp a.entries k ≡ o →
          IsBelowUnder (is_killed b.series k) IsNoLater o (value_at slot_cmp b.entries k)
      entry_below k None e = tt
      entry_below k (Some v) e =
          by_bool (kills b.series k i) (IsBelowUnder (is_killed b.series k) IsNoLater (Some v) (value_at slot_cmp b.entries k))
          (λ d. dead d (value_at slot_cmp b.entries k))
          (λ n. subst (IsBelowUnder (is_killed b.series k) IsNoLater (Some v)) (sym (there n)) (inr (not_later_up_to i found.0 no_later)))
        where
          i : Item
          i = v.value

          here : Contains x i
          here = entry_held uid a sound_a k v e

          key : i.key ≡ k
          key = (entry_key uid a sound_a k v e).in_place

          of_uid : uid_of i.key ≡ uid
          of_uid = about uid a sound_a i here

          found : (t : Item) × IsBest (x ++ z) i.key t
          found = best_above (x ++ z) i (Contains-append_left x z i here)

          no_later : ¬ IsLater i found.0
          no_later = (found.1).none_later i (Contains-append_left x z i here) refl

          dead : kills b.series k i ≡ true → (o : Option Best) → IsBelowUnder (is_killed b.series k) IsNoLater (Some v) o
          dead d None = d
          dead d (Some w) = inl d

          alive : kills b.series k i ≡ false → ¬ IsDead (x ++ z) found.0
          alive n gone =
              let same : uid_of (found.0).key ≡ uid = ap uid_of (found.1).about ∙ of_uid in
              let known = series_in kept gone.series (subst (λ u. IsBest (x ++ z) (Series u) gone.series) same gone.best) in
              let low : (found.0).eff < gone.series.eff = gone.below in
              let up : i.eff ≤ (found.0).eff = eff_up_to i found.0 (not_later_up_to i found.0 no_later) in
              let c : can_die k ≡ true = ap can_die (sym key ∙ sym (found.1).about) ∙ can (found.0).key gone.can_die in
              let y : true ≡ false = sym (kill gone.series k i c (omega arith)) ∙ sym (ap (λ (s : Lift Best). kills s k i) known) ∙ n in cc

          there : kills b.series k i ≡ false → value_at slot_cmp b.entries k ≡ Some (best found.0)
          there n =
              let is : IsKept (x ++ z) found.0 =
              record { best = subst (λ (q : Key). IsBest (x ++ z) q found.0) (sym (found.1).about) found.1; alive = alive n } in
              let other : is_series (found.0).key ≡ false = ap is_series ((found.1).about ∙ key) ∙ (entry_key uid a sound_a k v e).other in
              subst (λ (q : Key). value_at slot_cmp b.entries q ≡ Some (best found.0)) ((found.1).about ∙ key)
              (entry_is uid b sound_b found.0 ((kept found.0).1 is) other)
