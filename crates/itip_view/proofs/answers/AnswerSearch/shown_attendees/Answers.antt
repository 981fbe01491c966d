use Rattle.std.proofs.Common.{◌≡◌, ◌+◌, ℕ, List, [], ◌∷◌, ◌++◌, drop, map, refl, sym, ◌∙◌, ap, subst, Option, append-nil}
use Rattle.std.specs.Option.{option_copied}
use Rattle.std.proofs.lemmas.List.{at_drop_more, at_drop_all}
use Rattle.itip_todo.specs.Properties.{Property}
use Rattle.itip_items.specs.declared.item.Item.{Item}
use Rattle.itip_view.specs.Answers.{Asked, Decides, AreShown, shown_line, in_front}
use Rattle.itip_view.specs.RowsOfUid.{asked_of, asked_by}
use Rattle.itip_view.specs.declared.answers.Questions.{Questions}
use Rattle.itip_view.specs.declared.keyed_item.AttendeeLine.{AttendeeLine}
use Rattle.itip_view.specs.declared.row.ShownAttendee.{ShownAttendee}
use Rattle.itip_view.proofs.Deciding.{shows_more, behind}
use Rattle.itip_view.proofs.answers.AnswerSearch.shown_attendees.Goals as goal
use Rattle.itip_view.proofs.answers.AnswerSearch.shown_attendees.Goals.{in-Some+in_ok-push, in_default}

pub loop-line-preserved : goal.loop-line-preserved
loop-line-preserved c = λ others rest.
    let items : List Item = c.args.self.now.items.now.items in
    let uid : List ℕ = c.args.self.now.items.now.uid in
    let questions : Questions = c.args.self.now.questions.now in
    let asked : Property → List Asked = asked_by uid questions in
    let lines : List AttendeeLine = c.args.lines.now in
    let line : AttendeeLine = c.line-item.result in
    let before : List ShownAttendee = c.loop-line.attendees.items in
    let answer : Option Item = option_copied c.deciding-answer.result in
    let here : drop c.loop-line.line-index lines ≡ line ∷ drop (c.loop-line.line-index + 1) lines =
    at_drop_more (λ (xs : List AttendeeLine). xs) lines c.loop-line.line-index line c.loop-line-test.true ∙
    ap (λ (l : AttendeeLine). l ∷ drop (c.loop-line.line-index + 1) lines) (sym c.line-item.is) in
    let decides : Decides items (asked line.line.now) answer =
    subst (λ (key : List ℕ). Decides items (asked_of uid questions key) answer) (c.as_str.ensures ∙ line.of_line) c.deciding-answer.ensures
    in
    let now : c.match-branch-3.attendees.items ≡ before ++ in_front c.in_ok-attendee.field-0 [] =
    elim c.match-branch-3.branch [
      | in-Some+in_ok-push w ↦ ap (λ v. v.items) w.attendees-is ∙ w.in_ok-push.ensures.items ∙
          ap (λ (s : Option ShownAttendee). before ++ in_front s []) (sym w.in-Some.is)
      | in_default w ↦ ap (λ v. v.items) w.attendees-is ∙ sym (append-nil before) ∙
          ap (λ (s : Option ShownAttendee). before ++ in_front s []) (sym w.in_default.is)
    ] in
    let shown : c.in_ok-attendee.field-0 ≡ shown_line line.line.now answer = c.in_ok-attendee.ensures in
    let all : AreShown items asked (map (λ line. line.line.now) lines) (before ++ in_front (shown_line line.line.now answer) others) =
    c.loop-line.invariant (in_front (shown_line line.line.now answer) others)
    (subst (λ (xs : List AttendeeLine). AreShown items asked (map (λ line. line.line.now) xs)
    (in_front (shown_line line.line.now answer) others)) (sym here)
    (shows_more items asked line.line.now (map (λ line. line.line.now) (drop (c.loop-line.line-index + 1) lines)) answer others decides
    rest)) in
    subst (λ (xs : List ShownAttendee). AreShown items asked (map (λ line. line.line.now) lines) xs)
    (behind before others (shown_line line.line.now answer) ∙
    ap (λ (s : Option ShownAttendee). (before ++ in_front s []) ++ others) (sym shown) ∙
    ap (λ (xs : List ShownAttendee). xs ++ others) (sym now)) all

pub returns : goal.returns
returns c =
    let items : List Item = c.args.self.now.items.now.items in
    let asked : Property → List Asked = asked_by c.args.self.now.items.now.uid c.args.self.now.questions.now in
    let lines : List AttendeeLine = c.args.lines.now in
    let all : AreShown items asked (map (λ line. line.line.now) lines) (c.loop-line.attendees.items ++ []) =
    c.loop-line.invariant [] (subst (λ (xs : List AttendeeLine). AreShown items asked (map (λ line. line.line.now) xs) [])
    (sym (at_drop_all (λ (xs : List AttendeeLine). xs) lines c.loop-line.line-index c.loop-line-test.false)) refl) in
    subst (λ (xs : List ShownAttendee). AreShown items asked (map (λ line. line.line.now) lines) xs)
    (append-nil c.loop-line.attendees.items ∙ sym c.from_vec.ensures) all
