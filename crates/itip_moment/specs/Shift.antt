-- Moments moved by days and seconds: exact arithmetic within the years 0000 to 9999 (our own rule).
use Rattle.std.specs.Prelude.{◌≡◌, ℕ, ℤ, pos, neg_ℤ, ◌+ℤ◌, ◌*ℤ◌, unwrap_or}
use Rattle.jiff.specs.Words.{IsBetween}
use Rattle.itip_moment.specs.declared.moment.Form.TheVariants.{Date}
use Rattle.itip_moment.specs.declared.moment.Moment.{Moment}
use Rattle.itip_moment.specs.Moment.{moment_form, moment_day, moment_second, moment_zone}

-- seconds from 1970-01-01T000000, with 86,400 in each day
abbrev pub seconds_at : ℤ → ℕ → ℤ
seconds_at day second = (day *ℤ pos 86_400) +ℤ pos second

-- a sum of seconds, days and seconds
abbrev pub moved_by : ℤ → ℤ → ℤ → ℤ
moved_by from days seconds = (from +ℤ (days *ℤ pos 86_400)) +ℤ seconds

-- from the first to the last second of the years 0000 to 9999
abbrev pub IsInYears : ℤ → Type 0
IsInYears seconds = IsBetween (neg_ℤ (pos 62_167_219_200)) (pos 253_402_300_799) seconds

-- where a moment is on its own clock; a date is at its midnight
abbrev pub clock_seconds : Moment → ℤ
clock_seconds m = seconds_at (moment_day m) (unwrap_or (moment_second m) 0)

-- the sum stays in the years 0000 to 9999, and a date moves by days alone, with 0 seconds
pub record CanShift (m : Moment) (days seconds : ℤ) : Type 0 where
  pub in_years : IsInYears (moved_by (clock_seconds m) days seconds)
  pub whole_days : moment_form m ≡ Date → seconds ≡ pos 0

-- the moment is where the sum lies, in its old form and zone
pub record IsShifted (old : Moment) (days seconds : ℤ) (new : Moment) : Type 0 where
  pub sum : clock_seconds new ≡ moved_by (clock_seconds old) days seconds
  pub form : moment_form new ≡ moment_form old
  pub zone : moment_zone new ≡ moment_zone old
