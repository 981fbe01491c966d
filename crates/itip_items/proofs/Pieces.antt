-- The canonical lines of a to-do, from each property on.
use Rattle.std.proofs.Common.{List, ◌++◌, map}
use Rattle.std.specs.Fmt.{decimal}
use Rattle.itip_todo.specs.Parts.{Parts}
use Rattle.itip_todo.specs.StatusText.{status_text}
use Rattle.itip_todo.specs.Written.{Content, content_of, property_line, moment_line, rid_line, plain, optional}
use Rattle.itip_todo.specs.declared.property_name.PropertyName.TheVariants as name

abbrev pub base_of : Parts → List Content
base_of p = optional (λ n. plain name.DeskBase (decimal n)) p.base

abbrev pub rid_of : Parts → List Content
rid_of p = optional (rid_line p.range) p.rid

abbrev pub start_of : Parts → List Content
start_of p = optional (moment_line name.DtStart) p.start

abbrev pub due_of : Parts → List Content
due_of p = optional (moment_line name.Due) p.due

abbrev pub status_of : Parts → List Content
status_of p = optional (λ s. plain name.Status (status_text s)) p.status

abbrev pub percent_of : Parts → List Content
percent_of p = optional (λ n. plain name.PercentComplete (decimal n)) p.percent

abbrev pub priority_of : Parts → List Content
priority_of p = optional (λ n. plain name.Priority (decimal n)) p.priority

abbrev pub summary_of : Parts → List Content
summary_of p = optional (property_line name.Summary) p.summary

abbrev pub organizer_of : Parts → List Content
organizer_of p = optional (property_line name.Organizer) p.organizer

abbrev pub attendees_of : Parts → List Content
attendees_of p = map (property_line name.Attendee) p.attendees

abbrev pub rule_of : Parts → List Content
rule_of p = map (plain name.RRule) p.rule

abbrev pub rdates_of : Parts → List Content
rdates_of p = map (moment_line name.RDate) p.rdates

abbrev pub exdates_of : Parts → List Content
exdates_of p = map (moment_line name.ExDate) p.exdates

abbrev pub others_of : Parts → List Content
others_of p = map content_of p.others

abbrev pub from_exdates : Parts → List Content
from_exdates p = exdates_of p ++ others_of p

abbrev pub from_rdates : Parts → List Content
from_rdates p = rdates_of p ++ from_exdates p

abbrev pub from_rule : Parts → List Content
from_rule p = rule_of p ++ from_rdates p

abbrev pub from_attendees : Parts → List Content
from_attendees p = attendees_of p ++ from_rule p

abbrev pub from_organizer : Parts → List Content
from_organizer p = organizer_of p ++ from_attendees p

abbrev pub from_summary : Parts → List Content
from_summary p = summary_of p ++ from_organizer p

abbrev pub from_priority : Parts → List Content
from_priority p = priority_of p ++ from_summary p

abbrev pub from_percent : Parts → List Content
from_percent p = percent_of p ++ from_priority p

abbrev pub from_status : Parts → List Content
from_status p = status_of p ++ from_percent p

abbrev pub from_due : Parts → List Content
from_due p = due_of p ++ from_status p

abbrev pub from_start : Parts → List Content
from_start p = start_of p ++ from_due p

abbrev pub from_rid : Parts → List Content
from_rid p = rid_of p ++ from_start p
