use Rattle.itip_view.proofs.TodoLines.{lines_of_rows}
use Rattle.itip_view.proofs.todo_lines.todo_lines_of_rows.Goals as goal

pub returns : goal.returns
returns c = lines_of_rows
