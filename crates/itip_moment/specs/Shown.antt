-- Days and moments as they are shown (our own form).
use Rattle.std.specs.Prelude.{ℕ, codes, List, ◌++◌}
use Rattle.itip_moment.specs.declared.day.Day.{Day}
use Rattle.itip_moment.specs.declared.moment.Moment.{Moment}
use Rattle.itip_moment.specs.declared.moment.Moment.TheVariants.{Date, Floating, Utc, Zoned}
use Rattle.itip_moment.specs.Spelling.{IsDateText}
use Rattle.itip_moment.specs.Written.{moment_text}

-- the text spells the day
abbrev pub IsDay : List ℕ → Day → Type 0
IsDay text day = IsDateText text day.number

-- the zone comes before the text
abbrev pub shown_moment : Moment → List ℕ
shown_moment (Date day) = moment_text (Date day)
shown_moment (Floating stamp) = moment_text (Floating stamp)
shown_moment (Utc stamp) = moment_text (Utc stamp)
shown_moment (Zoned zone stamp) = codes "TZID=" ++ (zone.bytes ++ (codes ":" ++ moment_text (Zoned zone stamp)))
