-- What reading allows of a to-do, and what it allowed before instances had ranges (our own limits).
use Rattle.std.specs.Prelude.{ℕ, Bool, true, false}
use Rattle.itip_todo.specs.Table.{attendee_limit}

-- whether RECURRENCE-ID may have RANGE=THISANDFUTURE, and how many attendees a to-do may have
pub record Limits : Type 0 where
  pub ranges : Bool
  pub attendees : ℕ

-- as to-dos are read now
abbrev pub present : Limits
present = record { ranges = true; attendees = attendee_limit }

-- as they were read before: RANGE of any value was refused, and so were more than 500 attendees
abbrev pub before_ranges : Limits
before_ranges = record { ranges = false; attendees = 500 }
