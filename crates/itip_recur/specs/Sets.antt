-- The lists of a rule as sets of numbers below 128, in which each value has a number of its own (our own form).
use Rattle.std.specs.Prelude.{◌≡◌, ℕ, ◌+◌, ◌-◌, ◌*◌, ◌/◌, ◌<◌, ◌==◌, ◌||◌, Bool, false, ℤ}
use Rattle.std.specs.Int.{bit_at}
use Rattle.std.specs.List.{list_any}
use Rattle.jiff.specs.Words.{monday_zero}
use Rattle.itip_recur.specs.declared.sets.DaySets.{DaySets}
use Rattle.itip_recur.specs.declared.rule.Frequency.{Frequency}
use Rattle.itip_recur.specs.declared.rule.Frequency.TheVariants.{Daily, Weekly, Monthly, Yearly}
use Rattle.itip_recur.specs.declared.rule.WeekDays.{WeekDays}
use Rattle.itip_recur.specs.declared.rule.WeekDays.TheVariants as week
use Rattle.itip_recur.specs.declared.rule.MonthDays.{MonthDays}
use Rattle.itip_recur.specs.declared.rule.MonthDays.TheVariants as month
use Rattle.itip_recur.specs.declared.rule.YearDays.{YearDays}
use Rattle.itip_recur.specs.declared.rule.YearDays.TheVariants as year
use Rattle.itip_recur.specs.declared.rule.Place.{Place}
use Rattle.itip_recur.specs.declared.rule.Place.TheVariants.{FromFirst, FromLast}
use Rattle.itip_recur.specs.declared.rule.MonthWeekday.{MonthWeekday}
use Rattle.itip_recur.specs.declared.rule.MonthWeekday.TheVariants.{Every, Nth}
use Rattle.itip_recur.specs.Calendar.{weekday_number, day_of_month, month_length}

-- the bit with this number is set
abbrev pub has_number : ℕ → ℕ → Bool
has_number set n = bit_at set n == 1

-- of the numbers below 128, the set has exactly those that pass the test
abbrev pub IsSet : (ℕ → Bool) → ℕ → Type 0
IsSet test set = (n : ℕ) → n < 128 → has_number set n ≡ test n

-- the numbers from the front are even, those from the end odd
abbrev pub place_number : Place → ℕ
place_number (FromFirst n) = 2 * n
place_number (FromLast n) = 2 * n + 1

-- the numbers of the weekdays at one place are adjacent, after the seven of the weekdays without a place
abbrev pub nth_number : ℕ → ℕ → ℕ
nth_number place weekday = 7 * (1 + place) + weekday

abbrev pub month_weekday_number : MonthWeekday → ℕ
month_weekday_number (Every weekday) = monday_zero weekday
month_weekday_number (Nth place weekday) = nth_number (place_number place) (monday_zero weekday)

-- one of the weekdays has the number
abbrev pub names_weekday : WeekDays → ℕ → Bool
names_weekday week.OfStart n = false
names_weekday (week.Listed days) n = list_any (λ weekday. n == monday_zero weekday) days

-- one of the days of the month has it
abbrev pub names_day : MonthDays → ℕ → Bool
names_day month.OfStart n = false
names_day (month.Listed days) n = list_any (λ place. n == place_number place) days
names_day (month.Weekdays days) n = list_any (λ weekday. n == month_weekday_number weekday) days

-- one of the days of the year's months has it
abbrev pub names_place : YearDays → ℕ → Bool
names_place year.OfStart n = false
names_place (year.Listed months days) n = list_any (λ place. n == place_number place) days

-- one of the months has it
abbrev pub names_month : YearDays → ℕ → Bool
names_month year.OfStart n = false
names_month (year.Listed months days) n = list_any (λ month. n == month) months

-- one of the days of the frequency has it
abbrev pub has_day : Frequency → ℕ → Bool
has_day Daily n = false
has_day (Weekly days) n = names_weekday days n
has_day (Monthly days) n = names_day days n
has_day (Yearly days) n = names_place days n

-- one of its months has it
abbrev pub has_month : Frequency → ℕ → Bool
has_month Daily n = false
has_month (Weekly days) n = false
has_month (Monthly days) n = false
has_month (Yearly days) n = names_month days n

-- exactly the days and the months of the frequency's lists
abbrev pub AreSetsOf : Frequency → DaySets → Type 0
AreSetsOf frequency sets = IsSet (has_day frequency) sets.days × IsSet (has_month frequency) sets.months

-- the day's place in its month, from 1, counted from the end
abbrev pub from_last : ℤ → ℕ
from_last day = month_length day + 1 - day_of_month day

-- which seven days of its month a place lies in, from 1
abbrev pub seven : ℕ → ℕ
seven place = (place - 1) / 7 + 1

-- the number of the day's weekday at its place from the front
abbrev pub nth_first : ℤ → ℕ
nth_first day = nth_number (2 * seven (day_of_month day)) (weekday_number day)

-- and at its place from the end
abbrev pub nth_last : ℤ → ℕ
nth_last day = nth_number (2 * seven (from_last day) + 1) (weekday_number day)

-- a set of places has that of the day, from the front or from the end
abbrev pub has_place : ℕ → ℤ → Bool
has_place set day = has_number set (2 * day_of_month day) || has_number set (2 * from_last day + 1)

-- a set of weekdays of a month has that of the day, without a place or with one of its places
abbrev pub has_weekday : ℕ → ℤ → Bool
has_weekday set day = has_number set (weekday_number day) || (has_number set (nth_first day) || has_number set (nth_last day))
