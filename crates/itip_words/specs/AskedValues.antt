-- What the values of the words for messages stand for (our own rule).
use Rattle.std.specs.Prelude.{◌≡◌, ℕ, nat_le, cond, if◌then◌else◌, List, ◌∷◌, ◌++◌, codes, Option, Some, None}
use Rattle.std.specs.Option.{option_and_then}
use Rattle.itip_moment.specs.Spelling.{IsDateText, IsLocalText, IsUtcText}
use Rattle.itip_moment.specs.declared.moment.Moment.{Moment}
use Rattle.itip_moment.specs.declared.moment.Moment.TheVariants.{Date, Floating, Utc, Zoned}
use Rattle.itip_moment.specs.declared.stamp.Stamp.{Stamp}
use Rattle.itip_todo.specs.Participation.{same_text}
use Rattle.itip_todo.specs.declared.attendee.PartStat.{PartStat}
use Rattle.itip_todo.specs.declared.attendee.PartStat.TheVariants as partstat
use Rattle.itip_script.specs.Orders.{number_of}

-- `TZID=`, a zone, `:` (58), and the text of a time
abbrev pub zoned_text : List ℕ → List ℕ → List ℕ
zoned_text zone time = codes "TZID=" ++ (zone ++ 58 ∷ time)

-- a zone by its name, and a local time in it
pub record IsZonedText (text zone : List ℕ) (stamp : Stamp) : Type 0 where
  pub time : List ℕ
  pub spelt : text ≡ zoned_text zone time
  pub time_is : IsLocalText time stamp.day stamp.second

-- A text names the moment as reports show it: with the zone before a local time in one, and nothing before a date, a UTC time or a
-- local time without zone.
abbrev pub IsMomentName : List ℕ → Moment → Type 0
IsMomentName text (Date day) = IsDateText text day.number
IsMomentName text (Floating stamp) = IsLocalText text stamp.day stamp.second
IsMomentName text (Utc stamp) = IsUtcText text stamp.day stamp.second
IsMomentName text (Zoned zone stamp) = IsZonedText text zone.bytes stamp

-- the same, for moments in a zone only
abbrev pub IsZonedName : List ℕ → Moment → Type 0
IsZonedName text (Date day) = ⊥
IsZonedName text (Floating stamp) = ⊥
IsZonedName text (Utc stamp) = ⊥
IsZonedName text (Zoned zone stamp) = IsZonedText text zone.bytes stamp

-- a local time in this zone
abbrev pub IsTimeIn : List ℕ → List ℕ → Moment → Type 0
IsTimeIn zone time (Date day) = ⊥
IsTimeIn zone time (Floating stamp) = ⊥
IsTimeIn zone time (Utc stamp) = ⊥
IsTimeIn zone time (Zoned name stamp) = (name.bytes ≡ zone) × IsLocalText time stamp.day stamp.second

-- a moment that is in a zone
abbrev pub if_zoned : Moment → Option Moment
if_zoned (Date day) = None
if_zoned (Floating stamp) = None
if_zoned (Utc stamp) = None
if_zoned (Zoned zone stamp) = Some (Zoned zone stamp)

-- Decimal digits whose value is at most 100.
abbrev pub percent_of : List ℕ → Option ℕ
percent_of text = option_and_then (λ percent. if nat_le percent 100 then Some percent else None) (number_of text)

-- The participation that an attendee can answer, by its name in upper case: any but DELEGATED, which names somebody else.
abbrev pub answer_named : List ℕ → Option PartStat
answer_named name =
    cond (same_text name (codes "NEEDS-ACTION")) (Some partstat.NeedsAction)
    (cond (same_text name (codes "ACCEPTED")) (Some partstat.Accepted)
    (cond (same_text name (codes "DECLINED")) (Some partstat.Declined)
    (cond (same_text name (codes "TENTATIVE")) (Some partstat.Tentative)
    (cond (same_text name (codes "COMPLETED")) (Some partstat.Completed)
    (cond (same_text name (codes "IN-PROCESS")) (Some partstat.InProcess) None)))))
