-- The names of statuses (RFC 5545 3.8.1.11).
use Rattle.std.specs.Prelude.{ℕ, cond, List, codes, map, Option, Some, None}
use Rattle.std.specs.Char.{to_ascii_lowercase}
use Rattle.itip_todo.specs.Participation.{same_text}
use Rattle.itip_todo.specs.declared.status.Status.{Status}
use Rattle.itip_todo.specs.declared.status.Status.TheVariants as status

abbrev pub status_text : Status → List ℕ
status_text status.NeedsAction = codes "NEEDS-ACTION"
status_text status.Completed = codes "COMPLETED"
status_text status.InProcess = codes "IN-PROCESS"
status_text status.Cancelled = codes "CANCELLED"

-- the status with this name in lower case
abbrev pub status_named : List ℕ → Option Status
status_named name =
    cond (same_text name (codes "needs-action")) (Some status.NeedsAction)
    (cond (same_text name (codes "completed")) (Some status.Completed)
    (cond (same_text name (codes "in-process")) (Some status.InProcess)
    (cond (same_text name (codes "cancelled")) (Some status.Cancelled) None)))

-- the status that a text names, without regard to case
abbrev pub status_of : List ℕ → Option Status
status_of text = status_named (map to_ascii_lowercase text)
