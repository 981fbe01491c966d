use Rattle.itip_inbox.proofs.JsonText.{object_read}
use Rattle.itip_inbox.proofs.JsonArray.{array_read, array_line}
use Rattle.itip_inbox.proofs.Numerals.{decimal_numeral}
use Rattle.itip_inbox.proofs.json_records.objects_are_read.Goals as goal

pub returns-clause-object : goal.returns-clause-object
returns-clause-object c = object_read

pub returns-clause-array : goal.returns-clause-array
returns-clause-array c = array_read

pub returns-clause-line : goal.returns-clause-line
returns-clause-line c = array_line

pub returns-clause-number : goal.returns-clause-number
returns-clause-number c = decimal_numeral
