use Rattle.itip_view.proofs.Needing.{row_needs_days, row_needs_name}
use Rattle.itip_view.proofs.laws.rows_need_items.Goals as goal

pub returns-clause-days : goal.returns-clause-days
returns-clause-days c = row_needs_days

pub returns-clause-names : goal.returns-clause-names
returns-clause-names c heard window address row = row_needs_name heard address window row
