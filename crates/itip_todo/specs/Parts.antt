-- The parts of a to-do, as data (RFC 5545 3.6.2).
use Rattle.std.specs.Prelude.{ℕ, Bool, List, Option}
use Rattle.itip_lines.specs.declared.line.Line.{Line}
use Rattle.itip_moment.specs.declared.moment.Moment.{Moment}
use Rattle.itip_moment.specs.declared.stamp.Stamp.{Stamp}
use Rattle.itip_todo.specs.Properties.{Property}
use Rattle.itip_todo.specs.declared.status.Status.{Status}

pub record Parts : Type 0 where
  pub uid : List ℕ
  pub stamp : Stamp
  pub seq : ℕ
  pub base : Option ℕ
  pub rid : Option Moment
  pub range : Bool
  pub start : Option Moment
  pub due : Option Moment
  pub status : Option Status
  pub percent : Option ℕ
  pub priority : Option ℕ
  pub summary : Option Property
  pub organizer : Option Property
  pub attendees : List Property
  pub rule : List (List ℕ)
  pub rdates : List Moment
  pub exdates : List Moment
  pub others : List Line
