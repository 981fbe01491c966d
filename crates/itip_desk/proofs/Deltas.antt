-- A delta brings an older state up to date.
use Rattle.std.proofs.Common.{◌≡◌, ℕ, ◌<◌, ◌≤◌, List, [], ◌∷◌, ◌++◌, ◌↔◌, ◌⊎◌, inl, inr, refl, sym, ap, subst, ◌∙◌, append_assoc}
use Rattle.std.proofs.Common.{append-nil, arith, Option, Some, None, true, false, nat_lt}
use Rattle.std.specs.List.{Contains}
use Rattle.std.specs.Ordering.{nat_cmp}
use Rattle.std.specs.Cmp.Lexicographic.{slice_cmp}
use Rattle.std.proofs.lemmas.Bool.Decides.{nat_tests}
use Rattle.std.proofs.lemmas.List.Elements.{Contains-append_cases, Contains-append_left, Contains-append_right}
use Rattle.itip_join.specs.KeyByKey.{value_at}
use Rattle.itip_items.specs.KeyParts.{uid_of}
use Rattle.itip_items.specs.declared.item.Item.{Item}
use Rattle.itip_state.specs.Kept.{AreKept, IsKept, KeepSame, Moves}
use Rattle.itip_state.proofs.Members.{by_bool}
use Rattle.itip_state.proofs.Keeping.{Covers, covers_kept, covers_itself, kept_again, kept_of_parts, kept_iff, same_absorbed}
use Rattle.itip_desk.specs.Desk.{Shown, IsDeskOf, IsDeltaOf, CarriesAfter}
use Rattle.itip_desk.specs.HeardSteps.{heard}
use Rattle.itip_desk.specs.Ticks.{TickStep, Ticks, MovedAfter, TellsAfter}
use Rattle.itip_desk.proofs.Steps.{tick_once, step_rises}
use Rattle.itip_desk.proofs.Told.{keep_same_stable, kept_alike}

heard_both : (steps more : List (List Item)) → heard (steps ++ more) ≡ heard steps ++ heard more
heard_both [] more = refl
heard_both (step ∷ steps) more = ap (λ rest. step ++ rest) (heard_both steps more) ∙ sym (append_assoc step (heard steps) (heard more))

ticks_later : (before : List Item) (tick : ℕ) (steps more : List (List Item)) (mid last : ℕ) → Ticks before tick steps mid →
    Ticks before tick (steps ++ more) last → Ticks (before ++ heard steps) mid more last
ticks_later before tick [] more mid last at all =
    subst (λ (b : List Item). Ticks b mid more last) (sym (append-nil before)) (subst (λ (t : ℕ). Ticks before t more last) (sym at) all)
ticks_later before tick (step ∷ steps) more mid last (n, one, rest) (m, two, others) =
    subst (λ (b : List Item). Ticks b mid more last) (append_assoc before step (heard steps))
    (ticks_later (before ++ step) n steps more mid last rest
    (subst (λ (t : ℕ). Ticks (before ++ step) t (steps ++ more) last) (tick_once before step tick m n two one) others))

moved_later : (before : List Item) (tick : ℕ) (steps more : List (List Item)) (mid since : ℕ) (uid : List ℕ) →
    Ticks before tick steps mid → MovedAfter (before ++ heard steps) mid more since uid
    → MovedAfter before tick (steps ++ more) since uid
moved_later before tick [] more mid since uid at moved =
    subst (λ (t : ℕ). MovedAfter before t more since uid) at
    (subst (λ (b : List Item). MovedAfter b mid more since uid) (append-nil before) moved)
moved_later before tick (step ∷ steps) more mid since uid (n, one, rest) moved = (
  n,
  one,
  inr (moved_later (before ++ step) n steps more mid since uid rest
      (subst (λ (b : List Item). MovedAfter b mid more since uid) (sym (append_assoc before step (heard steps))) moved)),
)

-- a UID that did not move since keeps what it kept
unmoved : (before : List Item) (tick : ℕ) (more : List (List Item)) (last since : ℕ) (uid : List ℕ) → Ticks before tick more last →
    since ≤ tick → (¬ MovedAfter before tick more since uid)
    → KeepSame uid before (before ++ heard more)
unmoved before tick [] last since uid at low not =
    λ i about. subst (λ (all : List Item). IsKept before i ↔ IsKept all i) (sym (append-nil before)) (λ k. k, λ k. k)
unmoved before tick (step ∷ more) last since uid (next, one, rest) low not = λ i about.
    let first = here i about in
    let others = unmoved (before ++ step) next more last since uid rest after (λ moved. not (next, one, inr moved)) i about in
    subst (λ (all : List Item). IsKept before i ↔ IsKept all i) (append_assoc before step (heard more)) (
      λ k. others.0 (first.0 k),
      λ k. first.1 (others.1 k),
    )
  where
    after : since ≤ next
    after = let up = step_rises before step tick next one in omega (arith, up, low)

    above : TickStep before step tick next → Moves before step uid → since < next
    above (inl a) moves = let e = a.1 in omega (arith, e, low)
    above (inr a) moves = absurd (moves (a.0 uid))

    here : KeepSame uid before (before ++ step)
    here = keep_same_stable uid before (before ++ step) (λ moves. not (next, one, inl (moves, above one moves)))

-- whether a UID carries a tick above another
pub carries : (changed : List (List ℕ × ℕ)) (since : ℕ) (uid : List ℕ) → CarriesAfter changed since uid ⊎ (¬ CarriesAfter changed since uid)
carries changed since uid = at (value_at (slice_cmp nat_cmp) changed uid) refl
  where
    some_same : (t u : ℕ) → Some t ≡ Some u → t ≡ u
    some_same t u e = cc

    not_above : (t u : ℕ) → t ≡ u → nat_lt since t ≡ false → since < u → ⊥
    not_above t u e f l = grind (arith, nat_tests)

    above : (t : ℕ) → nat_lt since t ≡ true → since < t
    above t e = grind (arith, nat_tests)

    at : (o : Option ℕ) → value_at (slice_cmp nat_cmp) changed uid ≡ o → CarriesAfter changed since uid ⊎ (¬ CarriesAfter changed since uid)
    at None e = inr (λ c. let x : None ≡ Some c.0 = sym e ∙ c.1 in cc)
    at (Some t) e = by_bool (nat_lt since t) (CarriesAfter changed since uid ⊎ (¬ CarriesAfter changed since uid))
        (λ k. inl (t, e, above t k))
        (λ k. inr (λ c. not_above t c.0 (some_same t c.0 (sym e ∙ c.1)) k c.2))

-- all items of the UIDs that moved, of a set that has what is kept, bring an older state up to date
module _ (steps more : List (List Item)) (start : ℕ) (older newer : Shown) (whole part : List Item) (old : IsDeskOf steps start older)
    (new : IsDeskOf (steps ++ more) start newer)
    (covers : Covers whole (heard steps ++ heard more)) (same : (j : Item) → Contains part j ↔
    (Contains whole j × CarriesAfter newer.changed older.tick (uid_of j.key))) (i : Item) where
  kept_all : AreKept newer.kept (heard steps ++ heard more)
  kept_all = subst (λ (all : List Item). AreKept newer.kept all) (heard_both steps more) new.kept

  -- what is kept of the older state and the whole is what the newer keeps
  both : IsKept (older.kept ++ whole) i ↔ IsKept (heard steps ++ heard more) i
  both =
      let two = kept_of_parts (heard steps) (heard steps ++ heard more) older.kept whole (covers_kept older.kept (heard steps) old.kept)
      covers i in
      let once = kept_iff (heard steps ++ (heard steps ++ heard more)) (heard steps ++ heard more)
      (same_absorbed (heard steps) (heard steps ++ heard more) (Contains-append_left (heard steps) (heard more))) i in
      (λ k. once.0 (two.0 k), λ k. two.1 (once.1 k))

  with_part : CarriesAfter newer.changed older.tick (uid_of i.key) → Contains newer.kept i ↔ IsKept (older.kept ++ part) i
  with_part c =
      let alike = kept_alike (uid_of i.key) (older.kept ++ whole) (older.kept ++ part) (λ j about. (
        λ h. elim (Contains-append_cases older.kept whole j h) [
          | inl left ↦ Contains-append_left older.kept part j left
          | inr right ↦ Contains-append_right older.kept part j
              ((same j).1 (right, subst (CarriesAfter newer.changed older.tick) (sym about) c))
        ],
        λ h. elim (Contains-append_cases older.kept part j h) [
          | inl left ↦ Contains-append_left older.kept whole j left
          | inr right ↦ Contains-append_right older.kept whole j
              ((same j).0 right).0
        ],
      )) i refl in
      (λ h. alike.0 (both.1 ((kept_all i).0 h)), λ k. (kept_all i).1 (both.0 (alike.1 k)))

  without : (¬ CarriesAfter newer.changed older.tick (uid_of i.key)) → Contains newer.kept i ↔ IsKept (older.kept ++ part) i
  without n =
      let alike = kept_alike (uid_of i.key) older.kept (older.kept ++ part) (λ j about. (
        λ h. Contains-append_left older.kept part j h,
        λ h. elim (Contains-append_cases older.kept part j h)
            [ inl left ↦ left | inr right ↦ absurd (n (subst (CarriesAfter newer.changed older.tick) about ((same j).0 right).1)) ],
      )) i refl in
      let again = kept_again older.kept (heard steps) old.kept i in
      let keep = unmoved (heard steps) older.tick more newer.tick older.tick (uid_of i.key)
      (ticks_later [] start steps more older.tick newer.tick old.tick new.tick) (omega arith)
      (λ moved. n ((new.changed older.tick (uid_of i.key)).1
      (moved_later [] start steps more older.tick older.tick (uid_of i.key) old.tick moved))) i refl in
      (λ h. alike.0 (again.1 (keep.1 ((kept_all i).0 h))), λ k. (kept_all i).1 (keep.0 (again.0 (alike.1 k))))

  brought_up : Contains newer.kept i ↔ IsKept (older.kept ++ part) i
  brought_up = elim (carries newer.changed older.tick (uid_of i.key)) [ inl c ↦ with_part c | inr n ↦ without n ]

pub up_to_date : (steps more : List (List Item)) (start : ℕ) (older newer : Shown) (delta : List Item) → IsDeskOf steps start older →
    IsDeskOf (steps ++ more) start newer → IsDeltaOf newer older.tick delta
    → AreKept newer.kept (older.kept ++ delta)
up_to_date steps more start older newer delta old new is =
    let covers : Covers newer.kept (heard steps ++ heard more) =
    subst (Covers newer.kept) (heard_both steps more) (covers_kept newer.kept (heard (steps ++ more)) new.kept) in
    brought_up steps more start older newer newer.kept delta old new covers is.same

pub told_up_to_date : (steps more : List (List Item)) (start : ℕ) (older newer : Shown) (told : List Item) → IsDeskOf steps start older →
    IsDeskOf (steps ++ more) start newer
    → TellsAfter start (steps ++ more) older.tick told → AreKept newer.kept (older.kept ++ told)
told_up_to_date steps more start older newer told old new tells =
    let all = heard (steps ++ more) in
    let covers : Covers all (heard steps ++ heard more) = subst (Covers all) (heard_both steps more) (covers_itself all) in
    brought_up steps more start older newer all told old new covers (λ j.
    let moved = new.changed older.tick (uid_of j.key) in
    (λ h. let here = (tells j).0 h in (here.0, moved.1 here.1), λ (h, c). (tells j).1 (h, moved.0 c)))
