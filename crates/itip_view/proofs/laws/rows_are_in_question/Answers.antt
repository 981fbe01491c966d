use Rattle.itip_view.proofs.Asking.{row_in_question, shows_is, question_governs, one_in_question, one_shown_in_question}
use Rattle.itip_view.proofs.laws.rows_are_in_question.Goals as goal

pub returns-clause-row : goal.returns-clause-row
returns-clause-row c = row_in_question

pub returns-clause-shows : goal.returns-clause-shows
returns-clause-shows c = shows_is

pub returns-clause-governs : goal.returns-clause-governs
returns-clause-governs c = question_governs

pub returns-clause-one : goal.returns-clause-one
returns-clause-one c = one_in_question

pub returns-clause-one_shown : goal.returns-clause-one_shown
returns-clause-one_shown c = one_shown_in_question
