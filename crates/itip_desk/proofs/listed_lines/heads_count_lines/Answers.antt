use Rattle.itip_view.proofs.Unbroken.{rows_unbroken}
use Rattle.itip_desk.proofs.ListedLines.{lines_listed, lines_mine}
use Rattle.itip_desk.proofs.listed_lines.heads_count_lines.Goals as goal

pub returns-clause-listed : goal.returns-clause-listed
returns-clause-listed c = lines_listed

pub returns-clause-mine : goal.returns-clause-mine
returns-clause-mine c = lines_mine

pub returns-clause-of_view : goal.returns-clause-of_view
returns-clause-of_view c desk heard window rows number count each =
    let unbroken = rows_unbroken heard window rows each in
    (lines_listed desk rows number count unbroken, lines_mine desk rows number count unbroken)
