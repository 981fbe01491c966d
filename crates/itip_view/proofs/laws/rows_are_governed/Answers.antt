use Rattle.itip_view.proofs.Governed.{row_governed, one_governs}
use Rattle.itip_view.proofs.laws.rows_are_governed.Goals as goal

pub returns-clause-row : goal.returns-clause-row
returns-clause-row c = row_governed

pub returns-clause-one : goal.returns-clause-one
returns-clause-one c = one_governs
