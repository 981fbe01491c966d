use Rattle.std.proofs.Common.{◌∙◌, subst, List, ℕ}
use Rattle.itip_moment.specs.declared.moment.Moment.{Moment}
use Rattle.itip_items.specs.declared.item.Item.{Item}
use Rattle.itip_state.specs.OfUid.{UidPart}
use Rattle.itip_view.specs.Answers.{AreShown}
use Rattle.itip_view.specs.RowsOfUid.{asked_by}
use Rattle.itip_view.specs.Rows.{occurrence_answers}
use Rattle.itip_view.specs.declared.answers.Questions.{Questions}
use Rattle.itip_view.proofs.Asking.{shows_occurrence}
use Rattle.itip_view.proofs.in_question.InQuestion.occurrence_row.Goals as goal

pub returns : goal.returns
returns c =
    let items : List Item = c.args.self.now.items in
    let uid : List ℕ = c.args.self.now.uid in
    let at : Moment = c.args.at.now in
    let item : Item = c.args.series.now in
    let governing : Item = c.in_ok-governing.governing.item.now in
    let shown : AreShown items (occurrence_answers uid at item) governing.todo.attendees c.in_ok-row.row.attendees =
    subst (λ (qs : Questions). AreShown items (asked_by uid qs) governing.todo.attendees c.in_ok-row.row.attendees)
    c.in_turn-questions.ensures
    (subst (λ (p : UidPart). AreShown p.items (asked_by p.uid c.in_turn-questions.result) governing.todo.attendees
    c.in_ok-row.row.attendees) c.self.view_is c.in_ok-row.ensures.shown) in
    shows_occurrence items uid at item c.in_ok-row.row.item.now c.in_ok-row.row.attendees c.requires.none c.requires.occurs
    c.requires.none_rules c.requires.live
    (subst (λ (i : Item). AreShown items (occurrence_answers uid at item) i.todo.attendees c.in_ok-row.row.attendees)
    c.in_ok-governing.ensures shown) (c.in_ok-row.ensures.item ∙ c.in_ok-governing.ensures)
