-- A desk that began empty is told completely by its file, and so is one that hears one more batch.
use Rattle.std.proofs.Common.{◌≡◌, ◌∙◌, sym, ap, refl, subst, ℕ, ◌+◌, ◌-◌, ◌<◌, ◌≤◌, ◌^◌, true, false, List, [], ◌∷◌, ◌++◌, arith}
use Rattle.std.proofs.Common.{inl, inr, Option, Some, None}
use Rattle.std.specs.Prelude.{◌⊎◌, nat_lt}
use Rattle.std.specs.List.{Contains}
use Rattle.std.specs.Ordering.{is_eq}
use Rattle.std.proofs.lemmas.Bool.Decides.{nat_tests}
use Rattle.std.proofs.lemmas.Cmp.{nat_list_cmp_total}
use Rattle.std.proofs.lemmas.List.Elements.{Contains-append_left}
use Rattle.std.proofs.lemmas.Map.Lookups.{exact_bytes}
use Rattle.itip_items.specs.KeyParts.{uid_of}
use Rattle.itip_items.specs.declared.item.Item.{Item}
use Rattle.itip_state.specs.Kept.{AreKept, IsKept, IsBest, KeepSame, Moves}
use Rattle.itip_state.proofs.Best.{best_above}
use Rattle.itip_state.proofs.Keeping.{kept_again, series_kept}
use Rattle.itip_state.proofs.Lookups.{one_key, itself}
use Rattle.itip_state.proofs.Members.{by_bool, none_in, cons_cases, cons_first, cons_later}
use Rattle.itip_desk.specs.Desk.{Shown, CarriesAfter, IsCarriedOn}
use Rattle.itip_desk.specs.DeskFile.{IsTold}
use Rattle.itip_desk.specs.Ticks.{TickStep}
use Rattle.itip_desk.specs.MovedSince.{tick_at, AreTicks}
use Rattle.itip_desk.proofs.Steps.{step_rises}
use Rattle.itip_desk.proofs.Ticking.{uid_cmp}

some_same : (t u : ℕ) → Some t ≡ Some u → t ≡ u
some_same t u e = cc

none_some : (t : ℕ) → None ≡ Some t → ⊥
none_some t e = cc

-- ---- nothing was heard

pub nothing_told : (desk : Shown) → desk.kept ≡ [] → desk.tick ≡ 0 → desk.changed ≡ [] → IsTold desk
nothing_told desk none start unmoved =
    let no_tick : (uid : List ℕ) (tick : ℕ) → tick_at desk.changed uid ≡ Some tick → ⊥ =
    λ uid tick at. none_some tick (sym (ap (λ (es : List (List ℕ × ℕ)). tick_at es uid) unmoved) ∙ at) in
    let no_item : (item : Item) → Contains desk.kept item → ⊥ =
    λ item h. none_in item (subst (λ (kept : List Item). Contains kept item) none h) in
    record {
      settled = λ item. (λ h. absurd (no_item item h), λ k. absurd (no_item item k.best.is_heard));
      ticks = λ uid tick at. absurd (no_tick uid tick at);
      kept = λ uid tick at. absurd (no_tick uid tick at);
      moved = λ item h. absurd (no_item item h);
      empty = λ is. start;
      reached = λ some. absurd (omega (arith, start, some));
      fits = omega (arith, start);
    }

-- ---- if something was heard of a UID, something of it is kept

pub some_kept : (heard : List Item) (item : Item) → Contains heard item →
    ((k : Item) → IsKept heard k → uid_of k.key ≡ uid_of item.key → ⊥) → ⊥
some_kept heard item h none =
    let found = best_above heard item h in
    let best : Item = found.0 in
    let is : IsBest heard item.key best = found.1 in
    let uids : uid_of best.key ≡ uid_of item.key = ap uid_of is.about in
    none best (record {
      best = subst (λ k. IsBest heard k best) (sym is.about) is;
      alive = λ dead. none dead.series (series_kept heard (uid_of best.key) dead.series dead.best) (ap uid_of dead.best.about ∙ uids);
    }) uids

-- whether something of a UID is among items
abbrev HasOf : List Item → List ℕ → Type 0
HasOf items uid = (item : Item) × Contains items item × (uid_of item.key ≡ uid)

has_of : (items : List Item) (uid : List ℕ) → HasOf items uid ⊎ (HasOf items uid → ⊥)
has_of [] uid = inr (λ h. none_in h.0 h.1)
has_of (item ∷ items) uid = by_bool (is_eq (uid_cmp (uid_of item.key) uid)) (HasOf (item ∷ items) uid ⊎ (HasOf (item ∷ items) uid → ⊥))
    (λ same. inl (item, cons_first item items, one_key nat_list_cmp_total exact_bytes (uid_of item.key) uid same))
    (λ other. elim (has_of items uid) [
      | inl there ↦ inl (there.0, cons_later item items there.0 there.1, there.2)
      | inr none ↦ inr (λ h. elim (cons_cases item items h.0 h.1) [
        | inl same ↦
            let is : uid_of item.key ≡ uid = ap (λ (i : Item). uid_of i.key) same ∙ h.2 in
            let yes : is_eq (uid_cmp (uid_of item.key) uid) ≡ true =
            subst (λ (u : List ℕ). is_eq (uid_cmp (uid_of item.key) u) ≡ true) is
            (itself nat_list_cmp_total exact_bytes (uid_of item.key)) in
            differ (sym yes ∙ other)
        | inr later ↦ none (h.0, later, h.2)
      ])
    ])
  where
    differ : true ≡ false → ⊥
    differ e = cc

-- ---- one more batch

module _ (old new : Shown) (step : List Item) (told : IsTold old) (kept : AreKept new.kept (old.kept ++ step))
    (rises : TickStep old.kept step old.tick new.tick) (carried : IsCarriedOn old new step) (ticks : AreTicks new.changed)
    (fits : new.tick < 2 ^ 64) where
  -- what leads to a contradiction whether a UID moved or not is contradictory
  either : (uid : List ℕ) → (KeepSame uid old.kept (old.kept ++ step) → ⊥) → (Moves old.kept step uid → ⊥) → ⊥
  either uid same moves = moves same

  settled : AreKept new.kept new.kept
  settled item = let again = kept_again new.kept (old.kept ++ step) kept item in
      (λ h. again.1 ((kept item).0 h), λ k. (kept item).1 (again.0 k))

  up : old.tick ≤ new.tick
  up = step_rises old.kept step old.tick new.tick rises

  -- no UID carries a later tick
  above : (uid : List ℕ) (tick : ℕ) → tick_at new.changed uid ≡ Some tick → new.tick < tick → ⊥
  above uid tick at over =
      let carries : CarriesAfter new.changed new.tick uid = (tick, at, over) in
      either uid
      (λ same.
      let before : CarriesAfter old.changed new.tick uid = (carried.others new.tick uid same).0 carries in
      let within = told.ticks uid before.0 before.1 in
      let low = before.2 in
      let rise = up in
      omega (arith, within.1, low, rise))
      (λ moves. let low : new.tick < new.tick = (carried.moved new.tick uid moves).0 carries in omega (arith, low))

  within_tick : (uid : List ℕ) (tick : ℕ) → tick_at new.changed uid ≡ Some tick → tick ≤ new.tick
  within_tick uid tick at = by_bool (nat_lt new.tick tick) (tick ≤ new.tick)
      (λ over. absurd (above uid tick at (below over)))
      (λ not. not_below not)
    where
      below : nat_lt new.tick tick ≡ true → new.tick < tick
      below e = grind (arith, nat_tests)

      not_below : nat_lt new.tick tick ≡ false → tick ≤ new.tick
      not_below e = grind (arith, nat_tests)

  -- if nothing is kept of a UID now, nothing was kept before
  none_before : (uid : List ℕ) → (HasOf new.kept uid → ⊥) → HasOf old.kept uid → ⊥
  none_before uid none there =
      some_kept (old.kept ++ step) there.0 (Contains-append_left old.kept step there.0 there.1)
      (λ k is same. none (k, (kept k).1 is, same ∙ there.2))

  -- then it did not move
  stays : (uid : List ℕ) → (HasOf new.kept uid → ⊥) → KeepSame uid old.kept (old.kept ++ step)
  stays uid none item about = (
    λ k. absurd (none_before uid none (item, k.best.is_heard, about)),
    λ k. absurd (none (item, (kept item).1 k, about)),
  )

  kept_of : (uid : List ℕ) (tick : ℕ) → tick_at new.changed uid ≡ Some tick → HasOf new.kept uid
  kept_of uid tick at = elim (has_of new.kept uid) [
    | inl there ↦ there
    | inr none ↦
        let some : 0 < tick = ticks uid tick at in
        let before : CarriesAfter old.changed 0 uid = (carried.others 0 uid (stays uid none)).0 (tick, at, some) in
        absurd (none_before uid none (told.kept uid before.0 before.1))
  ]

  -- each kept item has a tick
  not_none : (item : Item) → Contains new.kept item → tick_at new.changed (uid_of item.key) ≡ None → ⊥
  not_none item there none = either (uid_of item.key)
      (λ same.
      let before = told.moved item ((told.settled item).1 ((same item refl).1 ((kept item).0 there))) in
      let some : 0 < before.0 = (told.ticks (uid_of item.key) before.0 before.1).0 in
      let now : CarriesAfter new.changed 0 (uid_of item.key) =
      (carried.others 0 (uid_of item.key) same).1 (before.0, before.1, some) in
      none_some now.0 (sym none ∙ now.1))
      (λ moves.
      let now : CarriesAfter new.changed 0 (uid_of item.key) = (carried.moved 0 (uid_of item.key) moves).1 (rose moves rises) in
      none_some now.0 (sym none ∙ now.1))
    where
      rose : Moves old.kept step (uid_of item.key) → TickStep old.kept step old.tick new.tick → 0 < new.tick
      rose moves (inl up) = let e = up.1 in omega (arith, e)
      rose moves (inr same) = absurd (moves (same.0 (uid_of item.key)))

  moved : (item : Item) → Contains new.kept item → (tick : ℕ) × (tick_at new.changed (uid_of item.key) ≡ Some tick)
  moved item there = at (tick_at new.changed (uid_of item.key)) refl
    where
      at : (o : Option ℕ) → tick_at new.changed (uid_of item.key) ≡ o → (tick : ℕ) × (tick_at new.changed (uid_of item.key) ≡ Some tick)
      at (Some t) e = (t, e)
      at None e = absurd (not_none item there e)

  empty : new.kept ≡ [] → new.tick ≡ 0
  empty none = by_step rises
    where
      no_item : (uid : List ℕ) → HasOf new.kept uid → ⊥
      no_item uid h = none_in h.0 (subst (λ (items : List Item). Contains items h.0) none h.1)

      nothing : (items : List Item) → old.kept ≡ items → old.kept ≡ []
      nothing [] is = is
      nothing (item ∷ items) is = absurd (none_before (uid_of item.key) (no_item (uid_of item.key))
          (item, subst (λ (its : List Item). Contains its item) (sym is) (cons_first item items), refl))

      by_step : TickStep old.kept step old.tick new.tick → new.tick ≡ 0
      by_step (inl up) = absurd (up.0.1 (stays up.0.0 (no_item up.0.0)))
      by_step (inr same) = same.1 ∙ told.empty (nothing old.kept refl)

  -- a UID that carries a tick above the one before the desk's carries the desk's tick
  at_tick : (since : ℕ) (uid : List ℕ) → new.tick ≤ since + 1 → CarriesAfter new.changed since uid → tick_at new.changed uid ≡ Some new.tick
  at_tick since uid next carries =
      let within = within_tick uid carries.0 carries.1 in
      let over = carries.2 in
      let same : carries.0 ≡ new.tick = omega (arith, within, over, next) in
      carries.1 ∙ ap Some same

  reached : 0 < new.tick → (uid : List ℕ) × (tick_at new.changed uid ≡ Some new.tick)
  reached some = by_step rises
    where
      by_step : TickStep old.kept step old.tick new.tick → (uid : List ℕ) × (tick_at new.changed uid ≡ Some new.tick)
      by_step (inl up) =
          let next = up.1 in
          (up.0.0, at_tick old.tick up.0.0 (omega (arith, next)) ((carried.moved old.tick up.0.0 up.0.1).1 (omega (arith, next))))
      by_step (inr same) =
          let tick = same.1 in
          let before = told.reached (omega (arith, tick, some)) in
          let carries : CarriesAfter old.changed (old.tick - 1) before.0 = (old.tick, before.1, omega (arith, tick, some)) in (
            before.0,
            at_tick (old.tick - 1) before.0 (omega (arith, tick, some))
                ((carried.others (old.tick - 1) before.0 (same.0 before.0)).1 carries),
          )

  pub told_on : IsTold new
  told_on = record {
    settled = settled;
    ticks = λ uid tick at. (ticks uid tick at, within_tick uid tick at);
    kept = kept_of;
    moved = moved;
    empty = empty;
    reached = reached;
    fits = fits;
  }
