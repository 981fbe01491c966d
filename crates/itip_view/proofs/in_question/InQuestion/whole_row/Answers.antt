use Rattle.std.proofs.Common.{◌∙◌, subst, List, ℕ, Option, Some}
use Rattle.itip_items.specs.declared.item.Item.{Item}
use Rattle.itip_state.specs.OfUid.{UidPart}
use Rattle.itip_view.specs.Answers.{AreShown}
use Rattle.itip_view.specs.OccurringWhole.{IsOccurringWhole}
use Rattle.itip_view.specs.RowsOfUid.{asked_by}
use Rattle.itip_view.specs.Rows.{series_answers}
use Rattle.itip_view.specs.declared.answers.Questions.{Questions}
use Rattle.itip_view.specs.declared.occurring_whole.OccurringWhole.{OccurringWhole}
use Rattle.itip_view.proofs.Asking.{shows_whole}
use Rattle.itip_view.proofs.in_question.InQuestion.whole_row.Goals as goal

pub returns : goal.returns
returns c =
    let items : List Item = c.args.self.now.items in
    let uid : List ℕ = c.args.self.now.uid in
    let item : Item = c.in-Some.whole.item.now in
    let governing : Item = c.in_ok-governing.governing.item.now in
    let whole : IsOccurringWhole items uid (Some c.in-Some.whole) =
    subst (λ (w : Option OccurringWhole). IsOccurringWhole items uid w) c.in-Some.is
    (subst (λ (p : UidPart). IsOccurringWhole p.items p.uid c.self.inside.whole) c.self.view_is c.self.invariant.0) in
    let shown : AreShown items (series_answers uid item) governing.todo.attendees c.in_ok-row.row.attendees =
    subst (λ (qs : Questions). AreShown items (asked_by uid qs) governing.todo.attendees c.in_ok-row.row.attendees) c.only-questions.ensures
    (subst (λ (p : UidPart). AreShown p.items (asked_by p.uid c.only-questions.result) governing.todo.attendees
    c.in_ok-row.row.attendees) c.self.view_is c.in_ok-row.ensures.shown) in
    shows_whole items uid item c.in_ok-row.row.item.now c.in_ok-row.row.attendees whole.0
    (subst (λ (i : Item). AreShown items (series_answers uid item) i.todo.attendees c.in_ok-row.row.attendees) c.in_ok-governing.ensures
    shown) (c.in_ok-row.ensures.item ∙ c.in_ok-governing.ensures)
