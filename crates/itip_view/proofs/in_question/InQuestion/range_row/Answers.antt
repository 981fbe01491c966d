use Rattle.std.proofs.Common.{◌≡◌, ◌∙◌, sym, subst, List, ℕ, true, false, rules}
use Rattle.itip_moment.specs.declared.moment.Moment.{Moment}
use Rattle.itip_items.specs.declared.item.Item.{Item}
use Rattle.itip_state.specs.OfUid.{UidPart}
use Rattle.itip_view.specs.Answers.{AreShown}
use Rattle.itip_view.specs.RowsOfUid.{asked_by}
use Rattle.itip_view.specs.Rows.{range_answers}
use Rattle.itip_view.specs.declared.answers.Questions.{Questions}
use Rattle.itip_view.proofs.Asking.{cancelled_range, shows_range}
use Rattle.itip_view.proofs.in_question.InQuestion.range_row.Goals as goal

pub returns-then-not-is_live : goal.returns-then-not-is_live
returns-then-not-is_live c =
    let off : c.is_live.result ≡ false = search rules in
    cancelled_range c.args.self.now.items c.args.self.now.uid c.args.at.now c.requires.rules.0 c.args.range.now.item.now c.requires.none
    c.requires.rules.1 (λ live. let x : true ≡ false = sym live ∙ sym c.is_live.ensures ∙ off in cc)

pub returns : goal.returns
returns c =
    let items : List Item = c.args.self.now.items in
    let uid : List ℕ = c.args.self.now.uid in
    let at : Moment = c.args.at.now in
    let item : Item = c.args.range.now.item.now in
    let on : c.is_live.result ≡ true = search rules in
    let shown : AreShown items (range_answers uid at item c.args.series.now) item.todo.attendees c.in_ok-row.row.attendees =
    subst (λ (qs : Questions). AreShown items (asked_by uid qs) item.todo.attendees c.in_ok-row.row.attendees)
    c.in_turn_under-questions.ensures
    (subst (λ (p : UidPart). AreShown p.items (asked_by p.uid c.in_turn_under-questions.result) item.todo.attendees
    c.in_ok-row.row.attendees) c.self.view_is c.in_ok-row.ensures.shown) in
    shows_range items uid at c.requires.rules.0 item c.args.series.now c.in_ok-row.row.item.now c.in_ok-row.row.attendees c.requires.none
    c.requires.occurs c.requires.rules.1 (sym c.is_live.ensures ∙ on) c.requires.live shown c.in_ok-row.ensures.item
