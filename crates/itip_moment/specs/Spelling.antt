-- How dates, times and moments are spelt: which text stands for which value (RFC 5545 3.3.4 and 3.3.5).
use Rattle.std.specs.Prelude.{◌≡◌, ℕ, ◌+◌, ◌*◌, ◌<◌, ◌≤◌, min, ℤ, pos, List, [], ◌∷◌, ◌++◌, Option, Some, unwrap_or}
use Rattle.jiff.specs.Types.{Date as CalendarDate}
use Rattle.jiff.specs.Words.{epoch_day, IsYmd}
use Rattle.itip_moment.specs.declared.stamp.Stamp.{Stamp}
use Rattle.itip_moment.specs.declared.moment.Moment.{Moment}
use Rattle.itip_moment.specs.declared.moment.Moment.TheVariants.{Date, Floating, Utc, Zoned}
use Rattle.itip_moment.specs.Digits.{date_digits, clock_digits}

-- the Gregorian calendar has this date, and the number is that of its day from 1970-01-01
pub record IsDayOf (year month day_of_month : ℕ) (number : ℤ) : Type 0 where
  pub date : CalendarDate
  pub parts : IsYmd (pos year) (pos month) (pos day_of_month) date
  pub number_is : number ≡ epoch_day date

-- YYYYMMDD of a date that the calendar has, in the years 0000 to 9999
pub record IsDateText (text : List ℕ) (day : ℤ) : Type 0 where
  pub year : ℕ
  pub month : ℕ
  pub day_of_month : ℕ
  pub spelt : text ≡ date_digits year month day_of_month
  pub day_is : IsDayOf year month day_of_month day

-- HHMMSS of a time of day; `second` is counted from midnight. Second 60 is read as 59 (RFC 5545 3.3.5, for programs without leap
-- seconds), in any minute (our own rule).
pub record IsClockText (text : List ℕ) (second : ℕ) : Type 0 where
  pub hour : ℕ
  pub minute : ℕ
  pub second_of_minute : ℕ
  pub hour_in : hour < 24
  pub minute_in : minute < 60
  pub second_in : second_of_minute ≤ 60
  pub spelt : text ≡ clock_digits hour minute second_of_minute
  pub number : second ≡ 3600 * hour + 60 * minute + min second_of_minute 59

-- a date, `T`, and a time of day
pub record IsLocalText (text : List ℕ) (day : ℤ) (second : ℕ) : Type 0 where
  pub date : List ℕ
  pub clock : List ℕ
  pub parts : text ≡ date ++ 84 ∷ clock
  pub date_is : IsDateText date day
  pub clock_is : IsClockText clock second

-- the same, and a final `Z`
pub record IsUtcText (text : List ℕ) (day : ℤ) (second : ℕ) : Type 0 where
  pub local : List ℕ
  pub marked : text ≡ local ++ 90 ∷ []
  pub local_is : IsLocalText local day second

abbrev pub IsStampText : List ℕ → Stamp → Type 0
IsStampText text stamp = IsUtcText text stamp.day stamp.second

-- The text spells the moment, beside this TZID. A date or a time in UTC is that, whatever TZID says;
-- a local time is in the zone that TZID names, and floating if there is no TZID or an empty one.
abbrev pub MomentText : List ℕ → Option (List ℕ) → Moment → Type 0
MomentText text tzid (Date day) = IsDateText text day.number
MomentText text tzid (Floating stamp) = IsLocalText text stamp.day stamp.second × (unwrap_or tzid [] ≡ [])
MomentText text tzid (Utc stamp) = IsUtcText text stamp.day stamp.second
MomentText text tzid (Zoned zone stamp) = IsLocalText text stamp.day stamp.second × (tzid ≡ Some zone.bytes)
