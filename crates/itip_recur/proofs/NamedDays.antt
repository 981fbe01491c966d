-- What a set has is in its list: a weekday, a month, or a day of a month by its places.
use Rattle.std.proofs.Common.{◌≡◌, ◌↔◌, ◌⊎◌, inl, inr, ℕ, ◌+◌, ◌-◌, ◌*◌, ◌<◌, ◌≤◌, ◌==◌, ◌||◌, true, IsTrue, sym, ◌∙◌, arith, List, ℤ}
use Rattle.std.specs.List.{Any, list_any}
use Rattle.std.proofs.lemmas.Bool.{eqb-true, eq-eqb, or_cases, or_left, or_right}
use Rattle.std.proofs.lemmas.List.Folds.{Any-from_list_any, list_any-from_Any}
use Rattle.jiff.specs.Words.{monday_zero}
use Rattle.itip_recur.specs.declared.rule.Place.{Place}
use Rattle.itip_recur.specs.declared.rule.Place.TheVariants.{FromFirst, FromLast}
use Rattle.itip_recur.specs.declared.rule.MonthWeekday.{MonthWeekday}
use Rattle.itip_recur.specs.declared.rule.MonthWeekday.TheVariants.{Every, Nth}
use Rattle.itip_recur.specs.Calendar.{weekday_number, day_of_month, month_length}
use Rattle.itip_recur.specs.SelectedDays.{IsAtPlace, IsMonthWeekday}
use Rattle.itip_recur.specs.Sets.{has_number, IsSet, place_number, nth_number, month_weekday_number, from_last, seven, nth_first, nth_last}
use Rattle.itip_recur.specs.Sets.{has_place, has_weekday}
use Rattle.itip_recur.proofs.PeriodWalks.{monday_zero-small}

pub any_like : {X : Type 0} (P Q : X → Type 0) → ((x : X) → P x → Q x) → (xs : List X) → Any P xs → Any Q xs
any_like P Q f xs h = (h.0, h.1, h.2, h.3, f h.1 h.4)

-- a number below 128 is in the set where it is a value's own
pub named : {X : Type 0} (own : X → ℕ) (xs : List X) (set n : ℕ) → IsSet (λ m. list_any (λ x. m == own x) xs) set → n < 128 →
    IsTrue (has_number set n) ↔ Any (λ x. n ≡ own x) xs
named own xs set n is small = (
  λ h. any_like (λ x. (n == own x) ≡ true) (λ x. n ≡ own x) (λ x e. eqb-true n (own x) e) xs
      (Any-from_list_any (λ x. n == own x) xs (sym (is n small) ∙ h)),
  λ h. is n small ∙
      list_any-from_Any (λ x. n == own x) xs (any_like (λ x. n ≡ own x) (λ x. (n == own x) ≡ true) (λ x e. eq-eqb n (own x) e) xs h),
)

-- the day's number from the front or from the end is the place's
by_place : (place : Place) (day : ℤ) →
    ((2 * day_of_month day ≡ place_number place) ⊎ (2 * from_last day + 1 ≡ place_number place)) ↔ IsAtPlace place day
by_place (FromFirst n) day = (
  λ h. elim h [ inl e ↦ omega (arith, e) | inr e ↦ absurd (omega (arith, e)) ],
  λ at. inl (omega (arith, at)),
)
by_place (FromLast n) day = (
  λ h. elim h [ inl e ↦ absurd (omega (arith, e)) | inr e ↦ omega (arith, e) ],
  λ at. inr (omega (arith, at)),
)

pub places_of : (places : List Place) (set : ℕ) (day : ℤ) → IsSet (λ n. list_any (λ place. n == place_number place) places) set →
    day_of_month day ≤ 31 → from_last day ≤ 31 → IsTrue (has_place set day) ↔ Any (λ place. IsAtPlace place day) places
places_of places set day is front back =
    let first = named place_number places set (2 * day_of_month day) is (omega (arith, front)) in
    let last = named place_number places set (2 * from_last day + 1) is (omega (arith, back)) in (
      λ h. elim (or_cases (has_number set (2 * day_of_month day)) (has_number set (2 * from_last day + 1)) h) [
        | inl e ↦ any_like (λ place. 2 * day_of_month day ≡ place_number place) (λ place. IsAtPlace place day)
            (λ place same. (by_place place day).0 (inl same)) places (first.0 e)
        | inr e ↦ any_like (λ place. 2 * from_last day + 1 ≡ place_number place) (λ place. IsAtPlace place day)
            (λ place same. (by_place place day).0 (inr same)) places (last.0 e)
      ],
      λ h. elim ((by_place h.1 day).1 h.4) [
        | inl e ↦ or_left (has_number set (2 * day_of_month day)) (has_number set (2 * from_last day + 1))
            (first.1 (h.0, h.1, h.2, h.3, e))
        | inr e ↦ or_right (has_number set (2 * day_of_month day)) (has_number set (2 * from_last day + 1))
            (last.1 (h.0, h.1, h.2, h.3, e))
      ],
    )

-- which seven a place lies in
seven_of : (d n : ℕ) → 1 ≤ d → 7 * (n - 1) < d → d ≤ 7 * n → seven d ≡ n
seven_of d n low after within = omega arith

in_seven : (d n : ℕ) → 1 ≤ d → seven d ≡ n → (7 * (n - 1) < d) × (d ≤ 7 * n)
in_seven d n low is = (omega arith, omega arith)

-- numbers of weekdays at places are equal only where both are
same_nth : (p q a b : ℕ) → a < 7 → b < 7 → nth_number p a ≡ nth_number q b → (p ≡ q) × (a ≡ b)
same_nth p q a b small fits e = (omega arith, omega arith)

-- the day has the number, with no place or with one of its places
abbrev HasNumber : ℤ → ℕ → Type 0
HasNumber day n = (weekday_number day ≡ n) ⊎ ((nth_first day ≡ n) ⊎ (nth_last day ≡ n))

by_weekday : (m : MonthWeekday) (day : ℤ) → 1 ≤ day_of_month day → day_of_month day ≤ month_length day →
    HasNumber day (month_weekday_number m) ↔ IsMonthWeekday m day
by_weekday (Every w) day low high = (
  λ h. elim h [
    | inl e ↦ e
    | inr nth ↦ absurd (elim nth [
      | inl e ↦ omega (arith, e, monday_zero-small w)
      | inr e ↦ omega (arith, e, monday_zero-small w)
    ])
  ],
  λ on. inl on,
)
by_weekday (Nth (FromFirst n) w) day low high =
    let small : monday_zero w < 7 = omega (arith, monday_zero-small w) in
    let of_day : weekday_number day < 7 = omega arith in (
      λ h. elim h [
        | inl e ↦ absurd (omega (arith, e, of_day))
        | inr nth ↦ elim nth [
          | inl e ↦
              let same = same_nth (2 * seven (day_of_month day)) (2 * n) (weekday_number day) (monday_zero w) of_day small e in
              let inside = in_seven (day_of_month day) n low (omega (arith, same.0)) in
              (same.1, record { after = inside.0; within = inside.1 })
          | inr e ↦ absurd (let same = same_nth (2 * seven (from_last day) + 1) (2 * n)
              (weekday_number day) (monday_zero w) of_day small e in omega (arith, same.0))
        ]
      ],
      λ at. let seven = seven_of (day_of_month day) n low at.1.after at.1.within in inr (inl (omega (arith, seven, at.0))),
    )
by_weekday (Nth (FromLast n) w) day low high =
    let small : monday_zero w < 7 = omega (arith, monday_zero-small w) in
    let of_day : weekday_number day < 7 = omega arith in
    let last : 1 ≤ from_last day = omega (arith, high) in (
      λ h. elim h [
        | inl e ↦ absurd (omega (arith, e, of_day))
        | inr nth ↦ elim nth [
          | inl e ↦ absurd (let same = same_nth (2 * seven (day_of_month day)) (2 * n + 1) (weekday_number day) (monday_zero w)
              of_day small e in omega (arith, same.0))
          | inr e ↦
              let same = same_nth (2 * seven (from_last day) + 1) (2 * n + 1) (weekday_number day)
              (monday_zero w) of_day small e in
              let inside = in_seven (from_last day) n last (omega (arith, same.0)) in
              (same.1, record { after = inside.0; within = inside.1 })
        ]
      ],
      λ at. let seven = seven_of (from_last day) n last at.1.after at.1.within in
          inr (inr (omega (arith, seven, at.0))),
    )

pub weekdays_of : (weekdays : List MonthWeekday) (set : ℕ) (day : ℤ) →
    IsSet (λ n. list_any (λ weekday. n == month_weekday_number weekday) weekdays) set → 1 ≤ day_of_month day →
    day_of_month day ≤ month_length day → month_length day ≤ 31 → IsTrue (has_weekday set day) ↔
    Any (λ weekday. IsMonthWeekday weekday day) weekdays
weekdays_of weekdays set day is low high long =
    let every = named month_weekday_number weekdays set (weekday_number day) is (omega arith) in
    let first = named month_weekday_number weekdays set (nth_first day) is (omega (arith, high, long)) in
    let last = named month_weekday_number weekdays set (nth_last day) is (omega (arith, low, high, long)) in
    let of = λ (n : ℕ) (has : (m : MonthWeekday) → n ≡ month_weekday_number m → HasNumber day (month_weekday_number m)).
    any_like (λ weekday. n ≡ month_weekday_number weekday) (λ weekday. IsMonthWeekday weekday day)
    (λ weekday e. (by_weekday weekday day low high).0 (has weekday e)) weekdays in (
      λ h. elim (or_cases (has_number set (weekday_number day)) (has_number set (nth_first day) || has_number set (nth_last day)) h) [
        | inl e ↦ of (weekday_number day) (λ m same. inl same) (every.0 e)
        | inr nth ↦ elim (or_cases (has_number set (nth_first day)) (has_number set (nth_last day)) nth) [
          | inl e ↦ of (nth_first day) (λ m same. inr (inl same)) (first.0 e)
          | inr e ↦ of (nth_last day) (λ m same. inr (inr same)) (last.0 e)
        ]
      ],
      λ h. elim ((by_weekday h.1 day low high).1 h.4) [
        | inl e ↦ or_left (has_number set (weekday_number day)) (has_number set (nth_first day) || has_number set (nth_last day))
            (every.1 (h.0, h.1, h.2, h.3, e))
        | inr nth ↦ or_right (has_number set (weekday_number day)) (has_number set (nth_first day) || has_number set (nth_last day))
            (elim nth [
              | inl e ↦ or_left (has_number set (nth_first day)) (has_number set (nth_last day)) (first.1 (h.0, h.1, h.2, h.3, e))
              | inr e ↦ or_right (has_number set (nth_first day)) (has_number set (nth_last day)) (last.1 (h.0, h.1, h.2, h.3, e))
            ])
      ],
    )
