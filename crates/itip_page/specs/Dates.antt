-- Days and moments in a page: `2026-01-05 09:30` (our own form).
use Rattle.std.specs.Prelude.{ℕ, ◌/◌, ◌%◌, ◌==◌, ℤ, List, [], ◌∷◌, ◌++◌, codes, if◌then◌else◌}
use Rattle.itip_moment.specs.Digits.{two_digits, four_digits}
use Rattle.itip_moment.specs.Written.{date_of}
use Rattle.itip_moment.specs.declared.moment.Moment.{Moment}
use Rattle.itip_moment.specs.declared.moment.Moment.TheVariants.{Date, Floating, Utc, Zoned}
use Rattle.itip_moment.specs.declared.stamp.Stamp.{Stamp}
use Rattle.itip_page.specs.Escaped.{escaped}

-- YYYY-MM-DD; 45 is a dash
abbrev pub day_text : ℤ → List ℕ
day_text day =
    four_digits (date_of day).year ++ (45 ∷ (two_digits (date_of day).month ++ (45 ∷ two_digits (date_of day).day)))

-- a blank and HH:MM; 58 is a colon
abbrev pub hour_text : ℕ → List ℕ
hour_text second = 32 ∷ (two_digits (second / 3600) ++ (58 ∷ two_digits (second / 60 % 60)))

-- :SS, but nothing at a whole minute
abbrev pub second_text : ℕ → List ℕ
second_text second = if second % 60 == 0 then [] else 58 ∷ two_digits (second % 60)

abbrev pub local_markup : Stamp → List ℕ
local_markup stamp = day_text stamp.day ++ (hour_text stamp.second ++ second_text stamp.second)

-- the zone comes from a message
abbrev pub zoned_markup : List ℕ → Stamp → List ℕ
zoned_markup zone stamp = local_markup stamp ++ (codes " <small><bdi>" ++ (escaped zone ++ codes "</bdi></small>"))

abbrev pub moment_markup : Moment → List ℕ
moment_markup (Date day) = day_text day.number
moment_markup (Floating stamp) = local_markup stamp
moment_markup (Utc stamp) = local_markup stamp ++ codes " <small>UTC</small>"
moment_markup (Zoned zone stamp) = zoned_markup zone.bytes stamp
