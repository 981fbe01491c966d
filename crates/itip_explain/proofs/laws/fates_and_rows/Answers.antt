use Rattle.itip_explain.proofs.Outcomes.{row_stands, governs_stands, question_stands, decides_counts, waits_wanted, wanted_waits}
use Rattle.itip_explain.proofs.laws.fates_and_rows.Goals as goal

pub returns-clause-row : goal.returns-clause-row
returns-clause-row c = row_stands

pub returns-clause-governs : goal.returns-clause-governs
returns-clause-governs c = governs_stands

pub returns-clause-in_question : goal.returns-clause-in_question
returns-clause-in_question c = question_stands

pub returns-clause-decides : goal.returns-clause-decides
returns-clause-decides c = decides_counts

pub returns-clause-waits : goal.returns-clause-waits
returns-clause-waits c told item = (waits_wanted told item, wanted_waits told item)
