-- Later days have later dates, and a month's days are those before the next.
use Rattle.std.proofs.Common.{◌≡◌, ℕ, zero, suc, ◌+◌, ◌*◌, ◌<◌, ◌≤◌, ◌⊎◌, inl, inr, ◌↔◌, true, false, cond, nat_lt, refl, sym, subst, arith}
use Rattle.std.proofs.Common.{ℤ, pos, negsuc, ◌+ℤ◌, ◌<ℤ◌, ◌≤ℤ◌, unsigned_abs}
use Rattle.std.proofs.lemmas.Int.{by_lt_z}
use Rattle.std.proofs.lemmas.Bool.{cases_lt, ltb-false}
use borrow.Author.Tests.{ltb-true}
use Rattle.jiff.specs.Words.{days_in_month}
use Rattle.jiff_core.proofs.SignedLemmas.{signed_arith}
use Rattle.itip_moment.specs.Years.{IsDayNumber}
use Rattle.itip_moment.specs.Written.{YearMonthDay, next_date, nth_date}
use Rattle.itip_recur.specs.Calendar.{days_from_zero, date_of, year_number, month_number, day_of_month}

-- a month that the calendar has, and a day from 1 on
pub record IsPlain (d : YearMonthDay) : Type 0 where
  pub month_low : 1 ≤ d.month
  pub month_high : d.month ≤ 12
  pub day_low : 1 ≤ d.day

next_date-IsPlain : (d : YearMonthDay) → IsPlain d → IsPlain (next_date d)
next_date-IsPlain d h =
    elim (nat_lt d.day (days_in_month (pos d.year) d.month)) as (λ b. IsPlain
    (cond b (record d { day = d.day + 1 })
    (cond (nat_lt d.month 12) (record { year = d.year; month = d.month + 1; day = 1 })
    (record { year = d.year + 1; month = 1; day = 1 })))) [
      | true ↦ record { month_low = h.month_low; month_high = h.month_high; day_low = omega arith }
      | false ↦
          elim (nat_lt d.month 12) as (λ b. nat_lt d.month 12 ≡ b → IsPlain
          (cond b (record { year = d.year; month = d.month + 1; day = 1 }) (record { year = d.year + 1; month = 1; day = 1 }))) [
            | true ↦ λ lt. record { month_low = omega arith; month_high = omega (arith, ltb-true); day_low = omega arith }
            | false ↦ λ ge. record { month_low = omega arith; month_high = omega arith; day_low = omega arith }
          ] refl
    ]

pub nth_date-IsPlain : (n : ℕ) → IsPlain (nth_date n)
unfolding nth_date
nth_date-IsPlain zero = record { month_low = omega arith; month_high = omega arith; day_low = omega arith }
nth_date-IsPlain (suc n) = next_date-IsPlain (nth_date n) (nth_date-IsPlain n)

pub date_of-IsPlain : (day : ℤ) → IsPlain (date_of day)
date_of-IsPlain day = nth_date-IsPlain (days_from_zero day)

-- months counted over all years
abbrev pub months : YearMonthDay → ℕ
months d = 12 * d.year + d.month

-- in a later month, or on a later day of the same month
abbrev pub IsLaterDate : YearMonthDay → YearMonthDay → Type 0
IsLaterDate d e = (months d < months e) ⊎ ((months d ≡ months e) × (d.day < e.day))

later_still : (a b c : YearMonthDay) → IsLaterDate a b → IsLaterDate b c → IsLaterDate a c
later_still a b c (inl p) (inl q) = inl (omega arith)
later_still a b c (inl p) (inr q) = inl (omega arith)
later_still a b c (inr p) (inl q) = inl (omega arith)
later_still a b c (inr p) (inr q) = inr (omega arith, omega arith)

next_date-later : (d : YearMonthDay) → IsPlain d → IsLaterDate d (next_date d)
next_date-later d h =
    elim (nat_lt d.day (days_in_month (pos d.year) d.month)) as
    (λ b. IsLaterDate d (cond b (record d { day = d.day + 1 })
    (cond (nat_lt d.month 12) (record { year = d.year; month = d.month + 1; day = 1 })
    (record { year = d.year + 1; month = 1; day = 1 })))) [
      | true ↦ inr (refl, omega arith)
      | false ↦
          elim (nat_lt d.month 12) as (λ b. IsLaterDate d
          (cond b (record { year = d.year; month = d.month + 1; day = 1 }) (record { year = d.year + 1; month = 1; day = 1 }))) [
            | true ↦ inl (omega arith)
            | false ↦ inl (let high = h.month_high in omega arith)
          ]
    ]

nth_date-later : (n m : ℕ) → n < m → IsLaterDate (nth_date n) (nth_date m)
unfolding nth_date
nth_date-later n zero lt = absurd (omega arith)
nth_date-later n (suc m) lt =
    let step = next_date-later (nth_date m) (nth_date-IsPlain m) in
    elim (cases_lt n m) [
      | inl below ↦ later_still (nth_date n) (nth_date m) (next_date (nth_date m)) (nth_date-later n m below) step
      | inr above ↦ let same : m ≡ n = omega arith in subst (λ (k : ℕ). IsLaterDate (nth_date k) (next_date (nth_date m))) same step
    ]

pub pos-unsigned_abs : (z : ℤ) → pos 0 ≤ℤ z → pos (unsigned_abs z) ≡ z
pos-unsigned_abs (pos n) h = refl
pos-unsigned_abs (negsuc n) h = absurd (omega (arith, signed_arith))

pub pos-days_from_zero : (day : ℤ) → IsDayNumber day → pos (days_from_zero day) ≡ day +ℤ pos 719_528
unfolding days_from_zero
pos-days_from_zero day in_years = pos-unsigned_abs (day +ℤ pos 719_528) (omega (arith, signed_arith))

pub later_date : (a b : ℤ) → IsDayNumber a → IsDayNumber b → a <ℤ b → IsLaterDate (date_of a) (date_of b)
later_date a b a_in b_in lt =
    nth_date-later (days_from_zero a) (days_from_zero b) (omega (arith, signed_arith, pos-days_from_zero a a_in, pos-days_from_zero b b_in))

-- the next date lies in the same month and year, or in the next
record IsNear (d e : YearMonthDay) : Type 0 where
  month : months e ≤ months d + 1
  year : e.year ≤ d.year + 1

next_date-near : (d : YearMonthDay) → IsPlain d → IsNear d (next_date d)
next_date-near d h =
    elim (nat_lt d.day (days_in_month (pos d.year) d.month)) as
    (λ b. IsNear d (cond b (record d { day = d.day + 1 })
    (cond (nat_lt d.month 12) (record { year = d.year; month = d.month + 1; day = 1 })
    (record { year = d.year + 1; month = 1; day = 1 })))) [
      | true ↦ record { month = omega arith; year = omega arith }
      | false ↦
          elim (nat_lt d.month 12) as (λ b. nat_lt d.month 12 ≡ b →
          IsNear d (cond b (record { year = d.year; month = d.month + 1; day = 1 })
          (record { year = d.year + 1; month = 1; day = 1 }))) [
            | true ↦ λ e. record { month = omega arith; year = omega arith }
            | false ↦ λ e. let high : 12 ≤ d.month = omega (arith, ltb-false d.month 12 e) in
                record { month = omega arith; year = omega arith }
          ] refl
    ]

nth_date-near : (n m : ℕ) → m ≡ n + 1 → IsNear (nth_date n) (nth_date m)
unfolding nth_date
nth_date-near n zero e = absurd (omega arith)
nth_date-near n (suc m) e =
    let same : m ≡ n = omega arith in
    subst (λ (k : ℕ). IsNear (nth_date k) (next_date (nth_date m))) same (next_date-near (nth_date m) (nth_date-IsPlain m))

near : (x y : ℤ) → IsDayNumber x → IsDayNumber y → y ≡ x +ℤ pos 1 → IsNear (date_of x) (date_of y)
near x y x_in y_in next =
    nth_date-near (days_from_zero x) (days_from_zero y)
    (omega (arith, signed_arith, pos-days_from_zero x x_in, pos-days_from_zero y y_in, next))

pub month_near : (x y : ℤ) → IsDayNumber x → IsDayNumber y → y ≡ x +ℤ pos 1 → month_number y ≤ month_number x + 1
month_near x y x_in y_in next = (near x y x_in y_in next).month

pub year_near : (x y : ℤ) → IsDayNumber x → IsDayNumber y → y ≡ x +ℤ pos 1 → year_number y ≤ year_number x + 1
year_near x y x_in y_in next = (near x y x_in y_in next).year

-- the days before the first of a month lie in earlier months
pub first_of_month : (first : ℤ) (month : ℕ) → IsDayNumber first → month_number first ≡ month → day_of_month first ≡ 1 → (day : ℤ) →
    IsDayNumber day → (day <ℤ first) ↔ (month_number day < month)
first_of_month first month first_in same one day day_in = (
  λ before. elim (later_date day first day_in first_in before) [
    | inl lt ↦ omega arith
    | inr at ↦ let low = (date_of-IsPlain day).day_low in absurd (omega arith)
  ],
  λ lt. by_lt_z day first (λ before. before)
      (λ after. by_lt_z first day
      (λ later. elim (later_date first day first_in day_in later) [ inl gt ↦ absurd (omega arith) | inr at ↦ absurd (omega arith) ])
      (λ not_later. let equal : day ≡ first = omega (arith, signed_arith) in
      absurd (let e : month_number day ≡ month = subst (λ (z : ℤ). month_number z ≡ month) (sym equal) same in omega arith))),
)

pub year_of_month : (day : ℤ) (year : ℕ) → (month_number day < 12 * year + 1) ↔ (year_number day < year)
year_of_month day year =
    let low = (date_of-IsPlain day).month_low in let high = (date_of-IsPlain day).month_high in (λ h. omega arith, λ h. omega arith)
