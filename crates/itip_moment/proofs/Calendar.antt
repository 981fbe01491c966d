-- The dates from 0000-01-01 on, one after another, against the day numbers of the calendar.
use Rattle.std.proofs.Common.{◌≡◌, ℕ, zero, suc, ◌+◌, ◌<◌, ◌≤◌, true, false, cond, nat_lt, refl, sym, ap, ◌∙◌, arith, ℤ, pos, negsuc, ◌+ℤ◌}
use Rattle.std.proofs.Common.{◌-ℤ◌, ◌≤ℤ◌, unsigned_abs, subst}
use Rattle.std.proofs.lemmas.Int.{by_lt_z}
use borrow.Author.Tests.{ltb-true, ltb-false}
use Rattle.jiff.specs.Types.{Date as CalendarDate}
use Rattle.jiff.specs.Words.{epoch_day, days_in_month}
use Rattle.jiff_core.specs.Calendar.{day_count, days_from_civil}
use Rattle.jiff_core.proofs.SignedLemmas.{signed_arith}
use Rattle.jiff_core.proofs.CalendarLemmas.{days_from_civil-day_count, days_in_month_bounds, day_count-day_of_year, day_count-later_year}
use Rattle.jiff_core.proofs.CalendarLemmas.{day_count-next_year, day_count-end}
use Rattle.jiff_core.proofs.MarchLemmas.{day_count-early}
use Rattle.jiff_core.proofs.DateLemmas.{epoch_day_range, epoch_day_injective, days_from_civil-day, days_from_civil-next_month}
use Rattle.jiff_core.proofs.DateLemmas.{days_from_civil-next_year}
use Rattle.itip_moment.specs.Years.{IsDayNumber}
use Rattle.itip_moment.specs.Written.{YearMonthDay, next_date, nth_date, date_of}

day_count-zero : day_count (pos 0) 1 1 ≡ 3_652_425
day_count-zero = day_count-early (pos 0) 9999 1 1 refl (omega arith) (omega arith) (omega arith)

-- a date that isn't before the year 0 has a day number in the years 0000 to 9999
pub epoch_day-in_years : (d : CalendarDate) (y : ℕ) → d.year ≡ pos y → IsDayNumber (epoch_day d)
epoch_day-in_years d y e =
    let range = epoch_day_range d in
    let count = day_count-day_of_year d.year d.month d.day d.day_in.0 in
    let low : 3_652_425 ≤ day_count d.year 1 1 =
    by_lt_z (pos 0) d.year
    (λ lt. omega (arith, day_count-later_year (pos 0) d.year (omega (arith, signed_arith)) lt, day_count-zero))
    (λ le. let zero_is : d.year ≡ pos 0 = omega (arith, signed_arith) in rw zero_is (omega (arith, day_count-zero))) in
    omega (arith, signed_arith, days_from_civil-day_count)

-- a month and a day that the calendar has, and the day's number
pub record IsDateAt (d : YearMonthDay) (number : ℤ) : Type 0 where
  pub month_in : (1 ≤ d.month) × (d.month ≤ 12)
  pub day_in : (1 ≤ d.day) × (d.day ≤ days_in_month (pos d.year) d.month)
  pub number_is : days_from_civil (pos d.year) d.month d.day ≡ number

later_day : (d : YearMonthDay) (z : ℤ) → IsDateAt d z → d.day < days_in_month (pos d.year) d.month →
    IsDateAt (record d { day = d.day + 1 }) (z +ℤ pos 1)
later_day d z h lt =
    let step = days_from_civil-day (pos d.year) d.month (d.day + 1) d.day (omega arith) h.day_in.0 in
    record {
      month_in = h.month_in;
      day_in = (omega arith, omega arith);
      number_is = omega (arith, signed_arith, h.number_is);
    }

next_month : (d : YearMonthDay) (z : ℤ) → IsDateAt d z → days_in_month (pos d.year) d.month ≤ d.day → d.month < 12 →
    IsDateAt (record { year = d.year; month = d.month + 1; day = 1 }) (z +ℤ pos 1)
next_month d z h last lt =
    let long = days_in_month_bounds (pos d.year) (d.month + 1) in
    record {
      month_in = (omega arith, omega arith);
      day_in = (omega arith, omega (arith, long));
      number_is = days_from_civil-next_month (pos d.year) d.month d.day h.month_in.0 (omega (arith, h.day_in)) ∙
          ap (λ n. n +ℤ pos 1) h.number_is;
    }

next_year : (d : YearMonthDay) (z : ℤ) → IsDateAt d z → days_in_month (pos d.year) d.month ≤ d.day → 12 ≤ d.month →
    IsDateAt (record { year = d.year + 1; month = 1; day = 1 }) (z +ℤ pos 1)
next_year d z h last top =
    let long = days_in_month_bounds (pos (d.year + 1)) 1 in
    let month : d.month ≡ 12 = omega arith in
    let long_december : days_in_month (pos d.year) d.month ≡ 31 = rw month refl in
    let day : d.day ≡ 31 = omega (arith, h.day_in) in
    let here : days_from_civil (pos d.year) 12 31 ≡ z = rw (month, day) at h.number_is in
    record {
      month_in = (omega arith, omega arith);
      day_in = (omega arith, omega (arith, long));
      number_is = days_from_civil-next_year (pos d.year) (pos (d.year + 1)) (omega (arith, signed_arith)) (omega (arith, signed_arith)) ∙
          ap (λ n. n +ℤ pos 1) here;
    }

next_date-IsDateAt : (d : YearMonthDay) (z : ℤ) → IsDateAt d z → IsDateAt (next_date d) (z +ℤ pos 1)
next_date-IsDateAt d z h =
    elim (nat_lt d.day (days_in_month (pos d.year) d.month)) as (λ b. nat_lt d.day (days_in_month (pos d.year) d.month) ≡ b →
    IsDateAt (cond b (record d { day = d.day + 1 })
    (cond (nat_lt d.month 12) (record { year = d.year; month = d.month + 1; day = 1 })
    (record { year = d.year + 1; month = 1; day = 1 }))) (z +ℤ pos 1)) [
      | true ↦ λ lt. later_day d z h (omega (arith, ltb-true))
      | false ↦ λ ge.
          elim (nat_lt d.month 12) as (λ b. nat_lt d.month 12 ≡ b →
          IsDateAt (cond b (record { year = d.year; month = d.month + 1; day = 1 }) (record { year = d.year + 1; month = 1; day = 1 }))
          (z +ℤ pos 1)) [
            | true ↦ λ lt. next_month d z h (omega (arith, ltb-false)) (omega (arith, ltb-true))
            | false ↦ λ top. next_year d z h (omega (arith, ltb-false)) (omega (arith, ltb-false))
          ] refl
    ] refl

nth_date-IsDateAt : (n : ℕ) → IsDateAt (nth_date n) (pos n -ℤ pos 719_528)
unfolding nth_date
nth_date-IsDateAt zero =
    record {
      month_in = (omega arith, omega arith);
      day_in = (omega arith, omega arith);
      number_is =
          omega (arith, signed_arith, days_from_civil-day_count (pos 0) 1 1, day_count-zero);
    }
nth_date-IsDateAt (suc n) =
    let e : (pos n -ℤ pos 719_528) +ℤ pos 1 ≡ pos (suc n) -ℤ pos 719_528 = omega (arith, signed_arith) in
    subst (IsDateAt (next_date (nth_date n))) e (next_date-IsDateAt (nth_date n) (pos n -ℤ pos 719_528) (nth_date-IsDateAt n))

-- the date with a day number, as the calendar's own
pub record IsDateOf (day : ℤ) (date : CalendarDate) : Type 0 where
  pub year : date.year ≡ pos (date_of day).year
  pub month : date.month ≡ (date_of day).month
  pub day_of_month : date.day ≡ (date_of day).day
  pub number : epoch_day date ≡ day

pos-unsigned_abs : (z : ℤ) → pos 0 ≤ℤ z → pos (unsigned_abs z) ≡ z
pos-unsigned_abs (pos n) h = refl
pos-unsigned_abs (negsuc n) h = absurd (omega (arith, signed_arith))

date_of-IsDateAt : (day : ℤ) → IsDayNumber day → IsDateAt (date_of day) day
date_of-IsDateAt day h =
    let back = pos-unsigned_abs (day +ℤ pos 719_528) (omega (arith, signed_arith)) in
    let forth : (day +ℤ pos 719_528) -ℤ pos 719_528 ≡ day = omega (arith, signed_arith) in
    let e : pos (unsigned_abs (day +ℤ pos 719_528)) -ℤ pos 719_528 ≡ day = ap (λ z. z -ℤ pos 719_528) back ∙ forth in
    subst (IsDateAt (date_of day)) e (nth_date-IsDateAt (unsigned_abs (day +ℤ pos 719_528)))

-- a date of the years after 9999 has a later number
year-bound : (d : YearMonthDay) (z : ℤ) → IsDateAt d z → IsDayNumber z → d.year ≤ 9999
year-bound d z h in_years = by_lt_z (pos 9999) (pos d.year)
    (λ late.
    let count = days_from_civil-day_count (pos d.year) d.month d.day in
    let from_start = day_count-day_of_year (pos d.year) d.month d.day h.day_in.0 in
    let after = day_count-later_year (pos 9999) (pos d.year) (omega (arith, signed_arith)) late in
    let tail = day_count-next_year (pos 9999) (pos 10000) (omega (arith, signed_arith)) (omega (arith, signed_arith)) in
    absurd (omega (arith, signed_arith, day_count-end, h.number_is)))
    (λ le. omega (arith, signed_arith))

pub calendar_date : (day : ℤ) → IsDayNumber day → (date : CalendarDate) × IsDateOf day date
calendar_date day h =
    let at = date_of-IsDateAt day h in
    let bound = year-bound (date_of day) day at h in (
      record {
        year = pos (date_of day).year;
        month = (date_of day).month;
        day = (date_of day).day;
        year_in =
            (omega (arith, signed_arith), omega (arith, signed_arith));
        month_in = at.month_in;
        day_in = at.day_in;
      },
      record { year = refl; month = refl; day_of_month = refl; number = at.number_is },
    )

-- the calendar has one date with a day number
pub same_date : (date : CalendarDate) (day : ℤ) → IsDayNumber day → epoch_day date ≡ day → IsDateOf day date
same_date date day h e =
    let one = calendar_date day h in
    let parts = epoch_day_injective date one.0 (e ∙ sym one.1.number) in
    record {
      year = parts.0 ∙ one.1.year;
      month = parts.1 ∙ one.1.month;
      day_of_month = parts.2 ∙ one.1.day_of_month;
      number = e;
    }

-- its year has four digits
pub year_high : (day : ℤ) → IsDayNumber day → (date_of day).year ≤ 9999
year_high day h = year-bound (date_of day) day (date_of-IsDateAt day h) h
