-- The days of a rule that a walk has counted from its start.
use Rattle.std.proofs.Common.{◌≡◌, ℕ, ◌+◌, ◌<◌, ◌≤◌, inl, inr, true, false, refl, sym, subst, arith, ℤ, pos, ◌+ℤ◌, ◌<ℤ◌, ◌≤ℤ◌, List, []}
use Rattle.std.proofs.Common.{◌∷◌, ◌++◌, map, length, length-append}
use Rattle.std.proofs.lemmas.List.{length-map}
use Rattle.std.specs.List.{Contains, IsDistinct, list_any}
use Rattle.std.specs.Ordering.{int_eq}
use Rattle.std.proofs.lemmas.Int.{by_lt_z}
use Rattle.std.proofs.lemmas.Cmp.{int_eq_equiv}
use Rattle.std.proofs.lemmas.List.Elements.{Contains-append_left, Contains-push, Contains-push_cases}
use Rattle.itip_recur.proofs.MappedLists.{Contains-map, Contains-from_map, map_push}
use Rattle.std.proofs.lemmas.Map.Keys.{IsDistinct-push}
use Rattle.std.proofs.lemmas.Int.{ints}
use Rattle.std.proofs.lemmas.Map.Made.{length-le_from_is_member}
use Rattle.std.proofs.lemmas.Map.Views.{Contains-from_any, list_any-from_Contains}
use Rattle.jiff_core.proofs.SignedLemmas.{signed_arith}
use Rattle.itip_moment.specs.Years.{IsDayNumber}
use Rattle.itip_moment.specs.declared.day.Day.{Day}
use Rattle.itip_moment.proofs.Same.{same_day}
use Rattle.itip_recur.specs.declared.rule.Rule.{Rule}
use Rattle.itip_recur.specs.SelectedDays.{IsLaterDay}
use Rattle.itip_recur.specs.Walk.{IsNoDay, IsNextDay, AreFewerDays, IsEarlier, IsEndOfCount}
use Rattle.itip_recur.specs.Counting.{Counted}

exact_signed_eq : (x y : ℤ) → int_eq x y ≡ true → x ≡ y
exact_signed_eq x y e = grind (arith, ints)

-- days by their numbers
Contains-numbers : (days : List Day) (d : Day) → Contains (map (λ d. d.number) days) d.number → Contains days d
Contains-numbers days d h =
    let found = Contains-from_map (λ d. d.number) days d.number h in
    subst (Contains days) (same_day found.from d found.is) found.among

-- a list of different days that lie in another list is no longer than that
no_longer : (xs ys : List Day) → IsDistinct int_eq (map (λ d. d.number) xs) → ((q : Day) → Contains xs q → Contains ys q) →
    length xs ≤ length ys
no_longer xs ys distinct inside =
    let within = length-le_from_is_member int_eq_equiv (map (λ d. d.number) xs) (map (λ d. d.number) ys) distinct
    (λ q h.
    let found = Contains-from_map (λ d. d.number) xs q (Contains-from_any exact_signed_eq q (map (λ d. d.number) xs) h) in
    list_any-from_Contains int_eq_equiv q (map (λ d. d.number) ys)
    (subst (Contains (map (λ d. d.number) ys)) found.is (Contains-map (λ d. d.number) ys found.from (inside found.from found.among))))
    in
    omega (arith, length-map xs (λ d. d.number), length-map ys (λ d. d.number))

not_among : (days : List Day) (y : Day) → (Contains days y → ⊥) → list_any (int_eq y.number) (map (λ d. d.number) days) ≡ false
not_among days y absent =
    elim (list_any (int_eq y.number) (map (λ d. d.number) days)) as (λ b. list_any (int_eq y.number) (map (λ d. d.number) days) ≡ b →
    b ≡ false) [
      | true ↦ λ h. absurd (absent (Contains-numbers days y (Contains-from_any exact_signed_eq y.number (map (λ d. d.number) days) h)))
      | false ↦ λ h. refl
    ] refl

no_later_yet : (rule : Rule) (start d : ℤ) → IsLaterDay rule start d → d <ℤ (start +ℤ pos 1) → ⊥
no_later_yet rule start d later lt = let after = later.later in omega (arith, signed_arith)

distinct_none : IsDistinct int_eq []
unfolding IsDistinct
distinct_none = tt

pub Counted-start : (rule : Rule) (start : ℤ) (count : ℕ) → IsDayNumber start → Counted rule start count 1 (start +ℤ pos 1)
Counted-start rule start count in_years =
    let first : Day = record { number = start; in_years = in_years } in
    record {
      after = omega (arith, signed_arith);
      days = first ∷ [];
      exactly = λ e. (
        λ h. elim (Contains-push_cases [] first e h) [
          | inl none ↦ absurd (let low = none.1 in omega arith)
          | inr same ↦ subst (λ (d : Day). IsEarlier rule start (start +ℤ pos 1) d.number) same (
            inl refl,
            let after : start <ℤ (start +ℤ pos 1) = omega (arith, signed_arith) in after,
          )
        ],
        λ h. elim h.0 [
          | inl same ↦ subst (λ (d : Day). Contains (first ∷ []) d) (same_day first e (sym same)) (Contains-push [] first)
          | inr later ↦ absurd (no_later_yet rule start e.number later h.1)
        ],
      );
      distinct = IsDistinct-push int_eq_equiv [] start distinct_none refl;
      many = refl;
      inside = λ d later lt. absurd (no_later_yet rule start d later lt);
    }

-- the days before the one that is found are those that were counted
counted_before : (rule : Rule) (start : ℤ) (count seen : ℕ) (day end found : ℤ) → (c : Counted rule start count seen day) →
    IsNextDay rule start day end found → (e : Day) → IsEarlier rule start found e.number → Contains c.days e
counted_before rule start count seen day end found c next e h =
    by_lt_z e.number day
    (λ lt. (c.exactly e).1 (h.0, lt))
    (λ ge. elim h.0 [
      | inl same ↦ absurd (let after = c.after in omega (arith, signed_arith))
      | inr later ↦ absurd (next.first e.number ge h.1 later.in_pattern)
    ])

pub Counted-more : (rule : Rule) (start : ℤ) (count seen : ℕ) (day end : ℤ) (found : Day) → Counted rule start count seen day →
    IsNextDay rule start day end found.number → seen < count → Counted rule start count (seen + 1) (found.number +ℤ pos 1)
Counted-more rule start count seen day end found c next room =
    let first = counted_before rule start count seen day end found.number c next in
    let after = c.after in
    let low = next.not_before in
    let is_later : IsLaterDay rule start found.number = record { later = omega (arith, signed_arith); in_pattern = next.in_pattern } in
    record {
      after = omega (arith, signed_arith);
      days = c.days ++ found ∷ [];
      exactly = λ e. (
        λ h. elim (Contains-push_cases c.days found e h) [
          | inl old ↦ let earlier = (c.exactly e).0 old in let lt = earlier.1 in (earlier.0, omega (arith, signed_arith))
          | inr same ↦ subst (λ (d : Day). IsEarlier rule start (found.number +ℤ pos 1) d.number) same (
            inr is_later,
            let before : found.number <ℤ (found.number +ℤ pos 1) = omega (arith, signed_arith) in before,
          )
        ],
        λ h. let lt = h.1 in
            by_lt_z e.number found.number
            (λ below. Contains-append_left c.days (found ∷ []) e (first e (h.0, below)))
            (λ above. let same : found.number ≡ e.number = omega (arith, signed_arith) in
            subst (λ (d : Day). Contains (c.days ++ found ∷ []) d) (same_day found e same) (Contains-push c.days found)),
      );
      distinct = subst (IsDistinct int_eq) (sym (map_push (λ d. d.number) c.days found))
          (IsDistinct-push int_eq_equiv (map (λ d. d.number) c.days) found.number c.distinct
          (not_among c.days found (λ h. let lt = ((c.exactly found).0 h).1 in omega (arith, signed_arith))));
      many = omega (arith, length-append c.days (found ∷ []), c.many);
      inside = λ d later lt.
          by_lt_z d day (c.inside d later)
          (λ ge. by_lt_z d found.number
          (λ below. absurd (next.first d ge below later.in_pattern))
          (λ above. let same : found.number ≡ d = omega (arith, signed_arith) in
          subst (λ (z : ℤ). AreFewerDays (IsEarlier rule start z) count) same
          (record { all = c.days; each = first; few = omega (arith, c.many) })));
    }

pub Counted-end : (rule : Rule) (start : ℤ) (count seen : ℕ) (day end : ℤ) → Counted rule start count seen day → count ≤ seen →
    IsEndOfCount rule start count end day
Counted-end rule start count seen day end c full =
    record {
      inside = λ d later before_end lt. c.inside d later lt;
      outside = λ d later before_end ge fewer.
          let within = no_longer c.days fewer.all c.distinct (λ q h.
          let earlier = (c.exactly q).0 h in
          let lt = earlier.1 in
          fewer.each q (earlier.0, omega (arith, signed_arith))) in
          let few = fewer.few in
          omega (arith, c.many);
    }

pub Counted-none : (rule : Rule) (start : ℤ) (count seen : ℕ) (day end : ℤ) → Counted rule start count seen day →
    IsNoDay rule start day end → IsEndOfCount rule start count end end
Counted-none rule start count seen day end c none =
    record {
      inside = λ d later before_end lt. by_lt_z d day (c.inside d later) (λ ge. absurd (none d ge before_end later.in_pattern));
      outside = λ d later before_end ge fewer. omega (arith, signed_arith);
    }

-- days that aren't in the pattern change nothing
pub Counted-passed : (rule : Rule) (start : ℤ) (count seen : ℕ) (day next : ℤ) → Counted rule start count seen day → day ≤ℤ next →
    IsNoDay rule start day next → Counted rule start count seen next
Counted-passed rule start count seen day next c le none =
    let after = c.after in
    record {
      after = omega (arith, signed_arith);
      days = c.days;
      exactly = λ e. (
        λ h. let earlier = (c.exactly e).0 h in let lt = earlier.1 in (earlier.0, omega (arith, signed_arith)),
        λ h. by_lt_z e.number day
            (λ lt. (c.exactly e).1 (h.0, lt))
            (λ ge. elim h.0 [
              | inl same ↦ absurd (omega (arith, signed_arith))
              | inr later ↦ absurd (none e.number ge h.1 later.in_pattern)
            ]),
      );
      distinct = c.distinct;
      many = c.many;
      inside = λ d later lt. by_lt_z d day (c.inside d later) (λ ge. absurd (none d ge lt later.in_pattern));
    }
