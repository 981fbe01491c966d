use Rattle.std.proofs.Common.{◌∙◌, ap}
use Rattle.itip_view.specs.TodoLines.{todo_lines}
use Rattle.itip_view.proofs.TodoLines.{lines_of_rows}
use Rattle.itip_view.proofs.Unbroken.{row_unbroken, rows_unbroken}
use Rattle.itip_view.proofs.todo_lines.rows_have_unbroken_texts.Goals as goal

pub returns-clause-row : goal.returns-clause-row
returns-clause-row c heard window row = row_unbroken heard row window

pub returns-clause-rows : goal.returns-clause-rows
returns-clause-rows c = rows_unbroken

pub returns-clause-text : goal.returns-clause-text
returns-clause-text c heard window text is =
    ap todo_lines is.text_is ∙ lines_of_rows is.rows (rows_unbroken heard window is.rows is.are_rows.each)

pub returns-clause-text_for : goal.returns-clause-text_for
returns-clause-text_for c heard window address text is =
    ap todo_lines is.text_is ∙ lines_of_rows is.rows (rows_unbroken heard window is.rows is.are_rows.each)
