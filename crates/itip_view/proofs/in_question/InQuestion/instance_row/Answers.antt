use Rattle.std.proofs.Common.{◌≡◌, ◌∙◌, sym, subst, List, ℕ, true, false, rules}
use Rattle.itip_moment.specs.declared.moment.Moment.{Moment}
use Rattle.itip_items.specs.declared.item.Item.{Item}
use Rattle.itip_state.specs.OfUid.{UidPart}
use Rattle.itip_view.specs.Answers.{AreShown}
use Rattle.itip_view.specs.RowsOfUid.{asked_by}
use Rattle.itip_view.specs.Rows.{instance_answers}
use Rattle.itip_view.specs.declared.answers.Questions.{Questions}
use Rattle.itip_view.proofs.Asking.{cancelled_instance, shows_instance}
use Rattle.itip_view.proofs.in_question.InQuestion.instance_row.Goals as goal

pub returns-then-not-is_live : goal.returns-then-not-is_live
returns-then-not-is_live c =
    let off : c.is_live.result ≡ false = search rules in
    cancelled_instance c.args.self.now.items c.args.self.now.uid c.args.at.now c.args.item.now c.requires
    (λ live. let x : true ≡ false = sym live ∙ sym c.is_live.ensures ∙ off in cc)

pub returns : goal.returns
returns c =
    let items : List Item = c.args.self.now.items in
    let uid : List ℕ = c.args.self.now.uid in
    let at : Moment = c.args.at.now in
    let item : Item = c.args.item.now in
    let governing : Item = c.in_ok-governing.governing.item.now in
    let on : c.is_live.result ≡ true = search rules in
    let shown : AreShown items (instance_answers uid at item) governing.todo.attendees c.in_ok-row.row.attendees =
    subst (λ (qs : Questions). AreShown items (asked_by uid qs) governing.todo.attendees c.in_ok-row.row.attendees) c.only-questions.ensures
    (subst (λ (p : UidPart). AreShown p.items (asked_by p.uid c.only-questions.result) governing.todo.attendees
    c.in_ok-row.row.attendees) c.self.view_is c.in_ok-row.ensures.shown) in
    shows_instance items uid at item c.in_ok-row.row.item.now c.in_ok-row.row.attendees c.requires (sym c.is_live.ensures ∙ on)
    (subst (λ (i : Item). AreShown items (instance_answers uid at item) i.todo.attendees c.in_ok-row.row.attendees)
    c.in_ok-governing.ensures shown) (c.in_ok-row.ensures.item ∙ c.in_ok-governing.ensures)
