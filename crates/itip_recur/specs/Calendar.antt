-- The weekday, the week, the month and the year of a day, which is given by its number from 1970-01-01 (Gregorian calendar, our own form).
use Rattle.std.specs.Prelude.{◌≡◌, ℕ, ◌+◌, ◌-◌, ◌*◌, ◌/◌, ◌%◌, ℤ, pos, neg_ℤ, ◌+ℤ◌, unsigned_abs}
use Rattle.jiff.specs.Words.{days_in_month, monday_zero, IsBetween}
use Rattle.jiff_core.specs.declared.civil.weekday.Weekday.{Weekday}
use Rattle.itip_moment.specs.Years.{IsDayNumber}
use Rattle.itip_moment.specs.Written.{YearMonthDay, nth_date}

-- days from 0000-01-01
unfoldable pub days_from_zero : ℤ → ℕ
days_from_zero day = unsigned_abs (day +ℤ pos 719_528)

-- 0 for Monday to 6 for Sunday; 0000-01-01 was a Saturday
abbrev pub weekday_number : ℤ → ℕ
weekday_number day = (days_from_zero day + 5) % 7

-- the number of the day's week, if weeks begin on this weekday; the week with 0000-01-01 has the number 0 or 1
abbrev pub week_number : Weekday → ℤ → ℕ
week_number first day = (days_from_zero day + 12 - monday_zero first) / 7

-- the date of the day
abbrev pub date_of : ℤ → YearMonthDay
date_of day = nth_date (days_from_zero day)

abbrev pub year_number : ℤ → ℕ
year_number day = (date_of day).year

-- 1 for January to 12 for December
abbrev pub month_of_year : ℤ → ℕ
month_of_year day = (date_of day).month

-- months counted over all years
abbrev pub month_number : ℤ → ℕ
month_number day = 12 * year_number day + month_of_year day

abbrev pub day_of_month : ℤ → ℕ
day_of_month day = (date_of day).day

-- how many days the day's month has
abbrev pub month_length : ℤ → ℕ
month_length day = days_in_month (pos (year_number day)) (month_of_year day)

-- a day of the calendar, or the end of it: the day after 9999-12-31
abbrev pub IsDayOrEnd : ℤ → Type 0
IsDayOrEnd day = IsBetween (neg_ℤ (pos 719_528)) (pos 2_932_897) day

-- the day has this year, month and day of the month
pub record HasDate (year month day_in_month : ℕ) (day : ℤ) : Type 0 where
  pub year_is : year_number day ≡ year
  pub month_is : month_of_year day ≡ month
  pub day_is : day_of_month day ≡ day_in_month

-- no day has this date
abbrev pub IsNoDate : ℕ → ℕ → ℕ → Type 0
IsNoDate year month day_in_month = (day : ℤ) → IsDayNumber day → HasDate year month day_in_month day → ⊥

-- the one day with this date
pub record IsDayOfDate (year month day_in_month : ℕ) (day : ℤ) : Type 0 where
  pub in_years : IsDayNumber day
  pub has_date : HasDate year month day_in_month day
  pub one : (other : ℤ) → IsDayNumber other → HasDate year month day_in_month other → other ≡ day
