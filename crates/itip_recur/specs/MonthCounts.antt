-- Whole months of a rule, counted by their shapes (our own form).
use Rattle.std.specs.Prelude.{◌≡◌, ◌≢◌, ℕ, ◌+◌, ◌*◌, ◌%◌, List, slice_index, ℤ, pos, ◌+ℤ◌}
use Rattle.std.specs.List.{Any}
use Rattle.itip_moment.specs.Years.{IsDayNumber}
use Rattle.itip_recur.specs.declared.rule.Rule.{Rule}
use Rattle.itip_recur.specs.declared.rule.Frequency.{Frequency}
use Rattle.itip_recur.specs.declared.rule.Frequency.TheVariants.{Daily, Weekly, Monthly, Yearly}
use Rattle.itip_recur.specs.declared.rule.YearDays.{YearDays}
use Rattle.itip_recur.specs.declared.rule.YearDays.TheVariants as year
use Rattle.itip_recur.specs.Calendar.{weekday_number, year_number, month_of_year, month_number, day_of_month, month_length}
use Rattle.itip_recur.specs.Counting.{Walked}

-- the rule repeats by the month or by the year
abbrev pub IsByMonths : Frequency → Type 0
IsByMonths Daily = ⊥
IsByMonths (Weekly days) = ⊥
IsByMonths (Monthly days) = Unit {0}
IsByMonths (Yearly days) = Unit {0}

-- the day's month is one that a yearly rule names, or that of the start if it names none
abbrev pub NamesMonth : YearDays → ℤ → ℤ → Type 0
NamesMonth year.OfStart start day = month_of_year day ≡ month_of_year start
NamesMonth (year.Listed months days) start day = Any (λ month. month_of_year day ≡ month) months

-- INTERVAL and the months of a yearly rule allow days of the pattern in the day's month; asked of monthly and yearly rules only
abbrev pub OwnsMonth : Frequency → ℕ → ℤ → ℤ → Type 0
OwnsMonth Daily interval start day = ⊥
OwnsMonth (Weekly days) interval start day = ⊥
OwnsMonth (Monthly days) interval start day = month_number day % interval ≡ month_number start % interval
OwnsMonth (Yearly days) interval start day = (year_number day % interval ≡ year_number start % interval) × NamesMonth days start day

-- the day is the first of a month in which the pattern may have days
pub record IsFirstOfOwn (rule : Rule) (start first : ℤ) : Type 0 where
  pub in_years : IsDayNumber first
  pub is_first : day_of_month first ≡ 1
  pub own : OwnsMonth rule.frequency rule.interval start first

-- the length of the day's month and the weekday of the day in one number
abbrev pub month_shape : ℤ → ℕ
month_shape day = 7 * month_length day + weekday_number day

-- marks a shape that was not met yet
abbrev pub unknown : ℕ
unknown = 4_294_967_295

-- for each shape that was met, how many days of the pattern lie in each of the rule's own months with this shape
abbrev pub AreMet : Rule → ℤ → List ℕ → Type 0
AreMet rule start met = (first : ℤ) → IsFirstOfOwn rule start first → slice_index met (month_shape first) ≢ unknown →
    Walked rule start first (slice_index met (month_shape first)) (first +ℤ pos (month_length first))
