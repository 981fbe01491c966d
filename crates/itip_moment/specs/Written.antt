-- The text that a date, a stamp and a moment are written as (our own form).
use Rattle.std.specs.Prelude.{ℕ, zero, suc, ◌+◌, ◌/◌, ◌%◌, nat_lt, if◌then◌else◌, ℤ, pos, ◌+ℤ◌, unsigned_abs, List, [], ◌∷◌, ◌++◌, Option}
use Rattle.std.specs.Prelude.{Some, None}
use Rattle.jiff.specs.Words.{days_in_month}
use Rattle.itip_moment.specs.declared.stamp.Stamp.{Stamp}
use Rattle.itip_moment.specs.declared.moment.Moment.{Moment}
use Rattle.itip_moment.specs.declared.moment.Moment.TheVariants.{Date, Floating, Utc, Zoned}
use Rattle.itip_moment.specs.Digits.{date_digits, clock_digits}

pub record YearMonthDay : Type 0 where
  pub year : ℕ
  pub month : ℕ
  pub day : ℕ

-- the next date of the calendar
abbrev pub next_date : YearMonthDay → YearMonthDay
next_date d =
    if nat_lt d.day (days_in_month (pos d.year) d.month) then record d { day = d.day + 1 }
    else (if nat_lt d.month 12 then record { year = d.year; month = d.month + 1; day = 1 }
    else record { year = d.year + 1; month = 1; day = 1 })

-- the date that many days after 0000-01-01
unfoldable pub nth_date : ℕ → YearMonthDay
nth_date zero = record { year = 0; month = 1; day = 1 }
nth_date (suc n) = next_date (nth_date n)

-- the date with this number from 1970-01-01
abbrev pub date_of : ℤ → YearMonthDay
date_of day = nth_date (unsigned_abs (day +ℤ pos 719_528))

abbrev pub date_text : ℤ → List ℕ
date_text day = date_digits (date_of day).year (date_of day).month (date_of day).day

abbrev pub clock_text : ℕ → List ℕ
clock_text second = clock_digits (second / 3600) (second / 60 % 60) (second % 60)

abbrev pub local_text : ℤ → ℕ → List ℕ
local_text day second = date_text day ++ 84 ∷ clock_text second

abbrev pub stamp_text : Stamp → List ℕ
stamp_text stamp = local_text stamp.day stamp.second ++ 90 ∷ []

abbrev pub moment_text : Moment → List ℕ
moment_text (Date day) = date_text day.number
moment_text (Floating stamp) = local_text stamp.day stamp.second
moment_text (Utc stamp) = stamp_text stamp
moment_text (Zoned zone stamp) = local_text stamp.day stamp.second

-- the TZID beside the text
abbrev pub moment_tzid : Moment → Option (List ℕ)
moment_tzid (Date day) = None
moment_tzid (Floating stamp) = None
moment_tzid (Utc stamp) = None
moment_tzid (Zoned zone stamp) = Some zone.bytes
