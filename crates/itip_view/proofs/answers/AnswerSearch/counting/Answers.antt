use Rattle.std.proofs.Common.{List}
use Rattle.itip_items.specs.declared.item.Item.{Item}
use Rattle.itip_view.specs.Answers.{Asked}
use Rattle.itip_view.specs.RowsOfUid.{to_question}
use Rattle.itip_view.proofs.Beside.{none_counts, too_early}
use Rattle.itip_view.proofs.answers.AnswerSearch.counting.Goals as goal
use Rattle.itip_view.proofs.answers.AnswerSearch.counting.Goals.{in_default-via-in-Some+else-question-answer, in_default-via-in_default}

pub returns-in-Some : goal.returns-in-Some
returns-in-Some c = record { best = c.in-Some.ensures; since = c.if-question-answer.true }

pub returns-in_default : goal.returns-in_default
returns-in_default c =
    let items : List Item = c.args.self.now.items.now.items in
    let asked : Asked = to_question c.args.self.now.items.now.uid c.args.attendee.now c.args.question.now in
    elim c.in_default.branch [
      | in_default-via-in-Some+else-question-answer w ↦ too_early items asked w.in-Some.answer.now w.in-Some.ensures
          w.if-question-answer.false
      | in_default-via-in_default w ↦ none_counts items asked w.in_default.ensures
    ]
