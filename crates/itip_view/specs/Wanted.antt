-- Whether a row is asked for, as a test (our own form).
use Rattle.std.specs.Prelude.{ℕ, ℤ, Bool, true, false, ◌&&◌, not, List, Option, Some, None, int_lt}
use Rattle.std.specs.List.{list_any}
use Rattle.std.specs.Option.{option_copied}
use Rattle.itip_moment.specs.Moment.{moment_day}
use Rattle.itip_moment.specs.declared.moment.Moment.{Moment}
use Rattle.itip_todo.specs.Participation.{same_text}
use Rattle.itip_todo.specs.Table.{attendee_key}
use Rattle.itip_todo.specs.declared.attendee.PartStat.{PartStat}
use Rattle.itip_todo.specs.declared.attendee.PartStat.TheVariants as part
use Rattle.itip_todo.specs.declared.status.Status.{Status}
use Rattle.itip_todo.specs.declared.status.Status.TheVariants as status
use Rattle.itip_view.specs.declared.row.Row.{Row}
use Rattle.itip_view.specs.declared.row.ShownAttendee.{ShownAttendee}
use Rattle.itip_view.specs.declared.wanted.Wanted.{Wanted}

-- the address of the attendee has the key of this address
abbrev pub is_named : List ℕ → ShownAttendee → Bool
is_named address attendee = same_text (attendee_key attendee.address) (attendee_key address)

-- an attendee with this PARTSTAT has nothing left to do
abbrev pub is_done : PartStat → Bool
is_done part.NeedsAction = false
is_done part.Accepted = false
is_done part.Declined = true
is_done part.Tentative = false
is_done part.Delegated = true
is_done part.Completed = true
is_done part.InProcess = false

-- the attendee of an address, with something left to do if only open rows are asked for
abbrev pub is_asked : Bool → List ℕ → ShownAttendee → Bool
is_asked only address attendee = is_named address attendee && not (only && is_done attendee.partstat)

-- the same for an attendee who may be left out
abbrev pub is_some_asked : Bool → List ℕ → Option ShownAttendee → Bool
is_some_asked only address None = false
is_some_asked only address (Some attendee) = is_asked only address attendee

-- one of these is the attendee who is named; true if none is named
abbrev pub shows_named : Bool → Option (List ℕ) → List ShownAttendee → Bool
shows_named only None attendees = true
shows_named only (Some address) attendees = list_any (is_asked only address) attendees

-- a to-do with this STATUS is completed or cancelled
abbrev pub is_closed : Status → Bool
is_closed status.NeedsAction = false
is_closed status.Completed = true
is_closed status.InProcess = false
is_closed status.Cancelled = true

-- a to-do without STATUS is open
abbrev pub is_over : Option Status → Bool
is_over None = false
is_over (Some s) = is_closed s

-- DUE is before the day that is named; true if none is
abbrev pub is_due_before : Option ℤ → Option Moment → Bool
is_due_before None due = true
is_due_before (Some day) None = false
is_due_before (Some day) (Some due) = int_lt (moment_day due) day

-- a row is open, and its DUE is before today
abbrev pub is_overdue : ℤ → Row → Bool
is_overdue today row = is_due_before (Some today) row.due && not (is_over row.status)

-- a row with this DUE and this STATUS is asked for, provided that it shows the attendee who is named
abbrev pub takes : Wanted → Option Moment → Option Status → Bool
takes wanted due status = is_due_before wanted.due_before due && not (wanted.is_open && is_over status)

abbrev pub wants : Wanted → Row → Bool
wants wanted row =
    shows_named wanted.is_open (option_copied wanted.attendee) row.attendees && is_due_before wanted.due_before row.due &&
    not (wanted.is_open && is_over row.status)
