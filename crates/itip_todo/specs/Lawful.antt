-- What holds of every to-do: the values, counts and orders of the table of properties (RFC 5545 3.6.2; the orders, and
-- the limits of SEQUENCE, X-DESK-BASE and ATTENDEE, are our own).
use Rattle.std.specs.Prelude.{◌≡◌, ◌≤◌, ◌<◌, ℕ, List, length, map, IsTrue, Some}
use Rattle.std.specs.Option.{is_some}
use Rattle.std.specs.List.{AllByRecursion, IsDistinct, list_all}
use Rattle.std.specs.List.Sorted.{IsStrictlySortedBy}
use Rattle.std.proofs.Props.{props}
use Rattle.std.proofs.lemmas.Map.Keys.{IsDistinct-prop, IsStrictlySortedBy-prop}
use Rattle.itip_lines.specs.Lawful as line
use Rattle.itip_moment.specs.Order.{moment_cmp}
use Rattle.itip_todo.specs.Participation.{same_text}
use Rattle.itip_todo.specs.Parts.{Parts}
use Rattle.itip_todo.specs.Written.{Content, parts_contents}
use Rattle.itip_todo.specs.Table.{sequence_limit, percent_limit, priority_limit, attendee_limit, attendee_key, is_other}
use Rattle.itip_todo.specs.Properties.{Property}

abbrev pub IsLawfulContent : Content → Type 0
IsLawfulContent content = line.IsLawful content.name content.params content.value

abbrev pub HasValue : Property → Type 0
HasValue property = 0 < length property.value

-- the keys of attendees
abbrev pub keys_of : List Property → List (List ℕ)
keys_of attendees = map (λ p. attendee_key p.value) attendees

pub record IsLawful (parts : Parts) : Type 0 where
  pub uid : 0 < length parts.uid
  pub seq : parts.seq ≤ sequence_limit
  pub base : (n : ℕ) → parts.base ≡ Some n → n ≤ sequence_limit
  -- only RECURRENCE-ID has a range
  pub range : IsTrue parts.range → IsTrue (is_some parts.rid)
  pub percent : (n : ℕ) → parts.percent ≡ Some n → n ≤ percent_limit
  pub priority : (n : ℕ) → parts.priority ≡ Some n → n ≤ priority_limit
  pub organizer : (p : Property) → parts.organizer ≡ Some p → HasValue p
  pub attendee_count : length parts.attendees ≤ attendee_limit
  pub attendee_values : AllByRecursion HasValue parts.attendees
  -- no two attendees are the same
  pub attendee_keys : IsDistinct same_text (keys_of parts.attendees)
  -- each moment once, in ascending order
  pub rdates : IsStrictlySortedBy moment_cmp parts.rdates
  pub exdates : IsStrictlySortedBy moment_cmp parts.exdates
  -- lines of properties that are not in the table, or of RDATE with `/` in its value
  pub others : IsTrue (list_all is_other parts.others)
  -- each line that it is written as is a lawful content line
  pub lines : AllByRecursion IsLawfulContent (parts_contents parts)

pub IsLawful-prop : (parts : Parts) → IsProp (IsLawful parts)
IsLawful-prop parts = hlevel (props, line.IsLawful-prop, IsDistinct-prop, IsStrictlySortedBy-prop)
