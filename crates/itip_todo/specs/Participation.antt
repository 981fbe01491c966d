-- How an attendee takes part: the first value of the first PARTSTAT, without regard to case (RFC 5545 3.2.12).
use Rattle.std.specs.Prelude.{ℕ, cond, List, codes, map}
use Rattle.std.specs.Char.{to_ascii_lowercase}
use Rattle.itip_lines.specs.declared.line.Param.{Param}
pub use Rattle.itip_lines.specs.Lookup.{same_text, first_value, param_value}
use Rattle.itip_todo.specs.declared.attendee.PartStat.{PartStat}
use Rattle.itip_todo.specs.declared.attendee.PartStat.TheVariants.{NeedsAction, Accepted, Declined, Tentative, Delegated, Completed}
use Rattle.itip_todo.specs.declared.attendee.PartStat.TheVariants.{InProcess}

-- the participation with this name in lower case; any other name is NEEDS-ACTION
abbrev pub partstat_named : List ℕ → PartStat
partstat_named name =
    cond (same_text name (codes "accepted")) Accepted
    (cond (same_text name (codes "declined")) Declined
    (cond (same_text name (codes "tentative")) Tentative
    (cond (same_text name (codes "delegated")) Delegated
    (cond (same_text name (codes "completed")) Completed
    (cond (same_text name (codes "in-process")) InProcess NeedsAction)))))

abbrev pub partstat_of : List Param → PartStat
partstat_of params = partstat_named (map to_ascii_lowercase (param_value (codes "PARTSTAT") params))

abbrev pub partstat_text : PartStat → List ℕ
partstat_text NeedsAction = codes "NEEDS-ACTION"
partstat_text Accepted = codes "ACCEPTED"
partstat_text Declined = codes "DECLINED"
partstat_text Tentative = codes "TENTATIVE"
partstat_text Delegated = codes "DELEGATED"
partstat_text Completed = codes "COMPLETED"
partstat_text InProcess = codes "IN-PROCESS"
