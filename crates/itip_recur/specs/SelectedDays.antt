-- Which days a rule selects, and the pattern they make, seen from its start (RFC 5545 3.3.10). Days are numbered from 1970-01-01.
use Rattle.std.specs.Prelude.{◌≡◌, ℕ, ◌+◌, ◌-◌, ◌*◌, ◌%◌, ◌<◌, ◌≤◌, ◌⊎◌, ℤ, ◌<ℤ◌}
use Rattle.std.specs.List.{Any}
use Rattle.jiff.specs.Words.{monday_zero}
use Rattle.jiff_core.specs.declared.civil.weekday.Weekday.{Weekday}
use Rattle.itip_recur.specs.declared.rule.Rule.{Rule}
use Rattle.itip_recur.specs.declared.rule.Frequency.{Frequency}
use Rattle.itip_recur.specs.declared.rule.Frequency.TheVariants.{Daily, Weekly, Monthly, Yearly}
use Rattle.itip_recur.specs.declared.rule.WeekDays.{WeekDays}
use Rattle.itip_recur.specs.declared.rule.WeekDays.TheVariants as week
use Rattle.itip_recur.specs.declared.rule.MonthDays.{MonthDays}
use Rattle.itip_recur.specs.declared.rule.MonthDays.TheVariants as month
use Rattle.itip_recur.specs.declared.rule.YearDays.{YearDays}
use Rattle.itip_recur.specs.declared.rule.YearDays.TheVariants as year
use Rattle.itip_recur.specs.declared.rule.Place.{Place}
use Rattle.itip_recur.specs.declared.rule.Place.TheVariants.{FromFirst, FromLast}
use Rattle.itip_recur.specs.declared.rule.MonthWeekday.{MonthWeekday}
use Rattle.itip_recur.specs.declared.rule.MonthWeekday.TheVariants.{Every, Nth}
use Rattle.itip_recur.specs.Calendar.{days_from_zero, weekday_number, week_number, year_number, month_of_year, month_number, day_of_month}
use Rattle.itip_recur.specs.Calendar.{month_length}

-- the number of the day, week, month or year that a day lies in
abbrev pub unit_number : Frequency → Weekday → ℤ → ℕ
unit_number Daily week_start day = days_from_zero day
unit_number (Weekly days) week_start day = week_number week_start day
unit_number (Monthly days) week_start day = month_number day
unit_number (Yearly days) week_start day = year_number day

-- the day's place in its month, from 1, counted from the side that the place names
abbrev pub counted : Place → ℤ → ℕ
counted (FromFirst n) day = day_of_month day
counted (FromLast n) day = month_length day + 1 - day_of_month day

abbrev pub ordinal : Place → ℕ
ordinal (FromFirst n) = n
ordinal (FromLast n) = n

abbrev pub IsAtPlace : Place → ℤ → Type 0
IsAtPlace place day = counted place day ≡ ordinal place

abbrev pub IsOnWeekday : Weekday → ℤ → Type 0
IsOnWeekday weekday day = weekday_number day ≡ monday_zero weekday

-- the day lies in the nth seven days of its month, so it is the nth of its weekday
pub record IsInSeven (place : Place) (day : ℤ) : Type 0 where
  pub after : 7 * (ordinal place - 1) < counted place day
  pub within : counted place day ≤ 7 * ordinal place

abbrev pub IsMonthWeekday : MonthWeekday → ℤ → Type 0
IsMonthWeekday (Every weekday) day = IsOnWeekday weekday day
IsMonthWeekday (Nth place weekday) day = IsOnWeekday weekday day × IsInSeven place day

abbrev pub IsWeekDay : WeekDays → ℤ → ℤ → Type 0
IsWeekDay week.OfStart start day = weekday_number day ≡ weekday_number start
IsWeekDay (week.Listed days) start day = Any (λ weekday. IsOnWeekday weekday day) days

-- for the start's day of the month, a month that is shorter has none
abbrev pub IsMonthDay : MonthDays → ℤ → ℤ → Type 0
IsMonthDay month.OfStart start day = day_of_month day ≡ day_of_month start
IsMonthDay (month.Listed days) start day = Any (λ place. IsAtPlace place day) days
IsMonthDay (month.Weekdays days) start day = Any (λ weekday. IsMonthWeekday weekday day) days

abbrev pub IsYearDay : YearDays → ℤ → ℤ → Type 0
IsYearDay year.OfStart start day = (month_of_year day ≡ month_of_year start) × (day_of_month day ≡ day_of_month start)
IsYearDay (year.Listed months days) start day = Any (λ month. month_of_year day ≡ month) months × Any (λ place. IsAtPlace place day) days

-- the day is selected in its day, week, month or year
abbrev pub IsSelected : Frequency → ℤ → ℤ → Type 0
IsSelected Daily start day = Unit {0}
IsSelected (Weekly days) start day = IsWeekDay days start day
IsSelected (Monthly days) start day = IsMonthDay days start day
IsSelected (Yearly days) start day = IsYearDay days start day

-- the numbers of the two units are congruent modulo INTERVAL, and the day is selected
pub record InPattern (rule : Rule) (start day : ℤ) : Type 0 where
  pub congruent : unit_number rule.frequency rule.week_start day % rule.interval ≡ unit_number rule.frequency rule.week_start start %
      rule.interval
  pub selected : IsSelected rule.frequency start day

-- a later day of the pattern
pub record IsLaterDay (rule : Rule) (start day : ℤ) : Type 0 where
  pub later : start <ℤ day
  pub in_pattern : InPattern rule start day

-- a day of the rule: the start, even if it is outside the pattern, or a later day of the pattern
abbrev pub IsRuleDay : Rule → ℤ → ℤ → Type 0
IsRuleDay rule start day = (day ≡ start) ⊎ IsLaterDay rule start day
