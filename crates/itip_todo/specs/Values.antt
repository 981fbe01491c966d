-- What the values of a to-do's properties may be (RFC 5545 3.3 and 3.8; the limit of SEQUENCE and X-DESK-BASE is our own).
use Rattle.std.specs.Prelude.{◌≡◌, ◌<◌, ◌≤◌, ◌⊎◌, ℕ, List, [], ◌∷◌, ◌++◌, length, codes, Some}
use Rattle.std.specs.List.{All}
use Rattle.std.specs.Str.Parse.{digits_value, IsNumeral, without_leading_plus}
use Rattle.itip_lines.specs.declared.line.Line.{Line}
use Rattle.itip_lines.specs.declared.line.Param.{Param}
use Rattle.itip_moment.specs.Spelling.{IsStampText, MomentText}
use Rattle.itip_moment.specs.declared.moment.Moment.{Moment}
use Rattle.itip_moment.specs.declared.stamp.Stamp.{Stamp}
use Rattle.itip_todo.specs.Participation.{param_value}
use Rattle.itip_todo.specs.StatusText.{status_of}
use Rattle.itip_todo.specs.Table.{sequence_limit, percent_limit, priority_limit}
use Rattle.itip_todo.specs.declared.property_name.PropertyName.{PropertyName}
use Rattle.itip_todo.specs.declared.property_name.PropertyName.TheVariants as name
use Rattle.itip_todo.specs.declared.status.Status.{Status}

-- one or more zeros after a minus
pub record AreNoughts (text : List ℕ) : Type 0 where
  pub noughts : List ℕ
  pub whole : text ≡ 45 ∷ noughts
  pub some : 0 < length noughts
  pub each : All (λ c. c ≡ 48) noughts

-- digits, with or without a plus before them, of this value, which is at most the limit
pub record AreDigitsUpTo (limit : ℕ) (text : List ℕ) (n : ℕ) : Type 0 where
  pub numeral : IsNumeral 10 (without_leading_plus text)
  pub value : n ≡ digits_value 10 (without_leading_plus text)
  pub small : n ≤ limit

-- a whole number of at most this value: an optional sign and digits; after a minus it can only be 0 (RFC 5545 3.3.8)
abbrev pub IsNumberUpTo : ℕ → List ℕ → ℕ → Type 0
IsNumberUpTo limit text n = (AreNoughts text × (n ≡ 0)) ⊎ AreDigitsUpTo limit text n

-- a moment with the zone that the parameters name: the first value of the first TZID; an empty one counts as absent
abbrev pub IsMomentText : List Param → List ℕ → Moment → Type 0
IsMomentText params text moment = MomentText text (Some (param_value (codes "TZID") params)) moment

-- moments, at least one, with commas (44) between them
abbrev pub AreMoments : List Param → List ℕ → List Moment → Type 0
AreMoments params text [] = ⊥
AreMoments params text (m ∷ []) = IsMomentText params text m
AreMoments params text (m ∷ (n ∷ ns)) =
    (front : List ℕ) × (rest : List ℕ) × (text ≡ front ++ 44 ∷ rest) × IsMomentText params front m × AreMoments params rest (n ∷ ns)

-- the value of a line is one that the property may have
abbrev pub IsGoodValue : PropertyName → Line → Type 0
IsGoodValue name.Uid line = 0 < length line.value
IsGoodValue name.DtStamp line = (stamp : Stamp) × IsStampText line.value stamp
IsGoodValue name.Sequence line = (n : ℕ) × IsNumberUpTo sequence_limit line.value n
IsGoodValue name.DeskBase line = (n : ℕ) × IsNumberUpTo sequence_limit line.value n
IsGoodValue name.RecurrenceId line = (m : Moment) × IsMomentText line.params line.value m
IsGoodValue name.DtStart line = (m : Moment) × IsMomentText line.params line.value m
IsGoodValue name.Due line = (m : Moment) × IsMomentText line.params line.value m
IsGoodValue name.Status line = (s : Status) × (status_of line.value ≡ Some s)
IsGoodValue name.PercentComplete line = (n : ℕ) × IsNumberUpTo percent_limit line.value n
IsGoodValue name.Priority line = (n : ℕ) × IsNumberUpTo priority_limit line.value n
IsGoodValue name.Summary line = Unit {0}
IsGoodValue name.Organizer line = 0 < length line.value
IsGoodValue name.Attendee line = 0 < length line.value
IsGoodValue name.RRule line = Unit {0}
IsGoodValue name.RDate line = (ms : List Moment) × AreMoments line.params line.value ms
IsGoodValue name.ExDate line = (ms : List Moment) × AreMoments line.params line.value ms
IsGoodValue name.Others line = Unit {0}
