use Rattle.itip_view.proofs.OfPart.{row_of_parts, uid_of_parts}
use Rattle.itip_view.proofs.laws.rows_of_part.Goals as goal

pub returns-clause-row : goal.returns-clause-row
returns-clause-row c = row_of_parts

pub returns-clause-uids : goal.returns-clause-uids
returns-clause-uids c = uid_of_parts
