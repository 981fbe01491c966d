-- The calendar's dates of days, and the first days of months.
use Rattle.std.proofs.Common.{◌≡◌, ℕ, ◌+◌, ◌-◌, ◌/◌, ◌%◌, ◌<◌, ◌≤◌, ◌↔◌, refl, sym, subst, ap, ◌∙◌, arith, ℤ, pos, ◌<ℤ◌}
use Rattle.jiff.specs.Types.{Date}
use Rattle.jiff.specs.Words.{epoch_day, days_in_month}
use Rattle.jiff_core.proofs.SignedLemmas.{signed_arith}
use Rattle.itip_moment.specs.Years.{IsDayNumber}
use Rattle.itip_moment.proofs.Calendar as calendar
use Rattle.itip_moment.proofs.Calendar.{same_date, calendar_date, epoch_day-in_years}
use Rattle.itip_recur.specs.Calendar.{days_from_zero, year_number, month_number, month_of_year, day_of_month, IsNoDate, IsDayOfDate}
use Rattle.itip_recur.proofs.Dates.{date_of-IsPlain, first_of_month}

-- the calendar's date of the day
record IsDateOf (day : ℤ) (date : Date) : Type 0 where
  year : date.year ≡ pos (year_number day)
  month : date.month ≡ month_of_year day
  day_of_month : date.day ≡ day_of_month day

date_is : (date : Date) (day : ℤ) → IsDayNumber day → epoch_day date ≡ day → IsDateOf day date
unfolding days_from_zero
date_is date day in_years same =
    let is = same_date date day in_years same in
    record { year = is.year; month = is.month; day_of_month = is.day_of_month }

pub year_high : (day : ℤ) → IsDayNumber day → year_number day ≤ 9999
unfolding days_from_zero
year_high day in_years = calendar.year_high day in_years

-- no day lies in a month of the years after 9999
pub month_high : (month : ℕ) → 9999 < (month - 1) / 12 → (day : ℤ) → IsDayNumber day → month_number day < month
month_high month after day in_years =
    let high = year_high day in_years in let plain = (date_of-IsPlain day).month_high in omega arith

-- z is the number of the first date of the month
pub record IsFirst (month : ℕ) (date : Date) (z : ℤ) : Type 0 where
  pub positive : 1 ≤ month
  pub in_years : (month - 1) / 12 ≤ 9999
  pub year_is : date.year ≡ pos ((month - 1) / 12)
  pub month_is : date.month ≡ (month - 1) % 12 + 1
  pub day_is : date.day ≡ 1
  pub number : z ≡ epoch_day date

pub IsFirst-in_years : (month : ℕ) (date : Date) (z : ℤ) → IsFirst month date z → IsDayNumber z
IsFirst-in_years month date z h = subst IsDayNumber (sym h.number) (epoch_day-in_years date ((month - 1) / 12) h.year_is)

pub IsFirst-before : (month : ℕ) (date : Date) (z : ℤ) → IsFirst month date z → (day : ℤ) → IsDayNumber day → (day <ℤ z) ↔
    (month_number day < month)
IsFirst-before month date z h =
    let z_in = IsFirst-in_years month date z h in
    let is = date_is date z z_in (sym h.number) in
    let year : year_number z ≡ (month - 1) / 12 = omega (arith, signed_arith, is.year, h.year_is) in
    let of_year : month_of_year z ≡ (month - 1) % 12 + 1 = sym is.month ∙ h.month_is in
    let positive = h.positive in
    let number : month_number z ≡ month = omega arith in
    first_of_month z month z_in number (sym is.day_of_month ∙ h.day_is)

a_date : (day : ℤ) → IsDayNumber day → (date : Date) × IsDateOf day date × (epoch_day date ≡ day)
unfolding days_from_zero
a_date day day_in =
    let at = calendar_date day day_in in
    (at.0, record { year = at.1.year; month = at.1.month; day_of_month = at.1.day_of_month }, at.1.number)

-- no month has more days than its length
pub no_date : (year month day : ℕ) → days_in_month (pos year) month < day → IsNoDate year month day
no_date year month day long x x_in has =
    let at = a_date x x_in in
    let same_year : at.0.year ≡ pos year = at.1.year ∙ ap pos has.year_is in
    let same_month : at.0.month ≡ month = at.1.month ∙ has.month_is in
    let same_day : at.0.day ≡ day = at.1.day_of_month ∙ has.day_is in
    let high : at.0.day ≤ days_in_month (pos year) month = rw (same_year, same_month) at at.0.day_in.1 in
    omega (arith, high, same_day)

-- the number of a date is the one day that has it
pub is_day_of_date : (year month day : ℕ) (date : Date) (z : ℤ) → date.year ≡ pos year → date.month ≡ month → date.day ≡ day →
    z ≡ epoch_day date → IsDayOfDate year month day z
is_day_of_date year month day date z year_is month_is day_is number =
    let z_in = subst IsDayNumber (sym number) (epoch_day-in_years date year year_is) in
    let is = date_is date z z_in (sym number) in
    record {
      in_years = z_in;
      has_date = record {
        year_is = omega (arith, signed_arith, is.year, year_is);
        month_is = sym is.month ∙ month_is;
        day_is =
            sym is.day_of_month ∙ day_is;
      };
      one = λ x x_in has.
          let at = a_date x x_in in
          let same_year : at.0.year ≡ date.year = at.1.year ∙ (ap pos has.year_is ∙ sym year_is) in
          let same_month : at.0.month ≡ date.month = at.1.month ∙ (has.month_is ∙ sym month_is) in
          let same_day : at.0.day ≡ date.day = at.1.day_of_month ∙ (has.day_is ∙ sym day_is) in
          let same : epoch_day at.0 ≡ epoch_day date = rw (same_year, same_month, same_day) refl in
          sym at.2 ∙ (same ∙ sym number);
    }
