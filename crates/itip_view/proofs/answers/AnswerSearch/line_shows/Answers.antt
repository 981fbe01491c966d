use Rattle.std.proofs.Common.{◌≡◌, ◌∙◌, ℕ, List, sym, ap, subst, false, Option, rules}
use Rattle.std.specs.Option.{option_copied}
use Rattle.itip_todo.specs.Participation.{same_text}
use Rattle.itip_todo.specs.Table.{attendee_key}
use Rattle.itip_todo.specs.Properties.{Property}
use Rattle.itip_items.specs.declared.item.Item.{Item}
use Rattle.itip_view.specs.Answers.{Asked, Decides}
use Rattle.itip_view.specs.RowsOfUid.{asked_by, asked_of}
use Rattle.itip_view.specs.Wanted.{is_some_asked}
use Rattle.itip_view.proofs.Asked.{other_line, line_decided}
use Rattle.itip_view.proofs.answers.AnswerSearch.line_shows.Goals as goal

pub returns-then-not-is_named : goal.returns-then-not-is_named
returns-then-not-is_named c = λ answer decides.
    let off : c.is_named.result ≡ false = search rules in
    other_line c.args.is_open c.args.address.now c.args.line.now answer
    (ap (λ (shown : List ℕ). same_text (attendee_key shown) (attendee_key c.args.address.now)) (sym c.value-shown.ensures) ∙
    sym c.is_named.ensures ∙ off)

pub returns-in_default : goal.returns-in_default
returns-in_default c = λ answer decides.
    let items : List Item = c.args.self.now.items.now.items in
    let asked : Property → List Asked = asked_by c.args.self.now.items.now.uid c.args.self.now.questions.now in
    let line : Property = c.args.line.now in
    let found : Option Item = option_copied c.deciding-answer.result in
    let same : c.as_str.result.now ≡ attendee_key line.value =
    c.as_str.ensures ∙ c.in_ok-key.ensures.key ∙ ap attendee_key c.value-shown.ensures in
    let is : Decides items (asked line) found =
    subst (λ (key : List ℕ). Decides items (asked_of c.args.self.now.items.now.uid c.args.self.now.questions.now key) found) same
    c.deciding-answer.ensures in
    line_decided c.args.is_open c.args.address.now items asked line found answer is decides ∙
    ap (is_some_asked c.args.is_open c.args.address.now) (sym c.in_ok-attendee.ensures ∙ c.in_default.is)

pub returns : goal.returns
returns c = λ answer decides.
    let items : List Item = c.args.self.now.items.now.items in
    let asked : Property → List Asked = asked_by c.args.self.now.items.now.uid c.args.self.now.questions.now in
    let line : Property = c.args.line.now in
    let found : Option Item = option_copied c.deciding-answer.result in
    let same : c.as_str.result.now ≡ attendee_key line.value =
    c.as_str.ensures ∙ c.in_ok-key.ensures.key ∙ ap attendee_key c.value-shown.ensures in
    let is : Decides items (asked line) found =
    subst (λ (key : List ℕ). Decides items (asked_of c.args.self.now.items.now.uid c.args.self.now.questions.now key) found) same
    c.deciding-answer.ensures in
    line_decided c.args.is_open c.args.address.now items asked line found answer is decides ∙
    ap (is_some_asked c.args.is_open c.args.address.now) (sym c.in_ok-attendee.ensures ∙ c.in-Some.is) ∙ sym c.is_asked.ensures
