use Rattle.std.proofs.Common.{drop}
use Rattle.itip_view.specs.RowsOfUid.{asked_by}
use Rattle.itip_view.proofs.Asked.{LeftToAsk}
use Rattle.itip_view.proofs.answers.AnswerSearch.shows.Given as goal

abbrev pub invariant-loop-line : goal.invariant-loop-line
invariant-loop-line l = LeftToAsk l.is_open l.address l.self.items.now.items (asked_by l.self.items.now.uid l.self.questions.now) l.lines
    (drop l.line-index l.lines)
