-- Which rows are asked for (our own rules).
use Rattle.std.specs.Prelude.{◌≡◌, ◌≢◌, ◌<ℤ◌, ℕ, ℤ, true, List, Option, Some, None}
use Rattle.std.specs.List.{Contains}
use Rattle.std.specs.Option.{option_copied}
use Rattle.itip_moment.specs.Moment.{moment_day}
use Rattle.itip_moment.specs.declared.moment.Moment.{Moment}
use Rattle.itip_todo.specs.Table.{attendee_key}
use Rattle.itip_todo.specs.declared.attendee.PartStat.{PartStat}
use Rattle.itip_todo.specs.declared.attendee.PartStat.TheVariants as part
use Rattle.itip_todo.specs.declared.status.Status.TheVariants as status
use Rattle.itip_view.specs.Showing.{ShowsNamed}
use Rattle.itip_view.specs.declared.row.Row.{Row}
use Rattle.itip_view.specs.declared.row.ShownAttendee.{ShownAttendee}
use Rattle.itip_view.specs.declared.wanted.Wanted.{Wanted}

-- STATUS is neither COMPLETED nor CANCELLED; a row without STATUS is open
pub record IsOpen (row : Row) : Type 0 where
  pub not_completed : row.status ≢ Some status.Completed
  pub not_cancelled : row.status ≢ Some status.Cancelled

-- an attendee with this PARTSTAT has something left to do
pub record HasLeft (partstat : PartStat) : Type 0 where
  pub not_completed : partstat ≢ part.Completed
  pub not_declined : partstat ≢ part.Declined
  pub not_delegated : partstat ≢ part.Delegated

-- a row shows the attendee of an address, who has something left to do
pub record IsLeftTo (address : List ℕ) (row : Row) : Type 0 where
  pub attendee : ShownAttendee
  pub there : Contains row.attendees attendee
  pub same : attendee_key attendee.address ≡ attendee_key address
  pub left : HasLeft attendee.partstat

abbrev pub IsLeftToNamed : Option (List ℕ) → Row → Type 0
IsLeftToNamed None row = Unit {0}
IsLeftToNamed (Some address) row = IsLeftTo address row

-- an open row; if an attendee is named, one on which they have something left to do
pub record IsOpenTo (named : Option (List ℕ)) (row : Row) : Type 0 where
  pub is_open : IsOpen row
  pub left : IsLeftToNamed named row

-- a row has a DUE whose day, as written, is before this one
pub record IsDueBefore (day : ℤ) (row : Row) : Type 0 where
  pub due : Moment
  pub due_is : row.due ≡ Some due
  pub before : moment_day due <ℤ day

abbrev pub IsDueBeforeNamed : Option ℤ → Row → Type 0
IsDueBeforeNamed None row = Unit {0}
IsDueBeforeNamed (Some day) row = IsDueBefore day row

-- The row is asked for: it shows the attendee if one is named, it is open if only open rows are asked for, and it is due before
-- the day if one is named.
pub record Wants (wanted : Wanted) (row : Row) : Type 0 where
  pub shows : ShowsNamed (option_copied wanted.attendee) row
  pub open_only : wanted.is_open ≡ true → IsOpenTo (option_copied wanted.attendee) row
  pub due : IsDueBeforeNamed wanted.due_before row
