use Rattle.std.proofs.Common.{◌≡◌, ◌+◌, ◌∙◌, List, [], ◌∷◌, drop, refl, sym, ap, subst, true, false, Option}
use Rattle.std.specs.List.{list_any}
use Rattle.std.proofs.lemmas.List.{at_drop_more, at_drop_all}
use Rattle.itip_todo.specs.Properties.{Property}
use Rattle.itip_items.specs.declared.item.Item.{Item}
use Rattle.itip_view.specs.Answers.{Asked, Decides, AreShown, shown_line}
use Rattle.itip_view.specs.RowsOfUid.{asked_by}
use Rattle.itip_view.specs.Wanted.{is_asked, is_some_asked}
use Rattle.itip_view.proofs.Asked.{shows_first, shows_later}
use Rattle.itip_view.proofs.answers.AnswerSearch.shows.Goals as goal

pub loop-line-init : goal.loop-line-init
loop-line-init c = λ shown are. (shown, are, refl)

pub returns-then-is_shown : goal.returns-then-is_shown
returns-then-is_shown c = λ shown are.
    let items : List Item = c.args.self.now.items.now.items in
    let asked : Property → List Asked = asked_by c.args.self.now.items.now.uid c.args.self.now.questions.now in
    let lines : List Property = c.args.lines.now in
    let line : Property = c.line-item.result in
    let here : drop c.loop-line.line-index lines ≡ line ∷ drop (c.loop-line.line-index + 1) lines =
    at_drop_more (λ (xs : List Property). xs) lines c.loop-line.line-index line c.loop-line-test.true ∙
    ap (λ (l : Property). l ∷ drop (c.loop-line.line-index + 1) lines) (sym c.line-item.is) in
    let left = c.loop-line.invariant shown are in
    let told : (answer : Option Item) → Decides items (asked line) answer → is_some_asked c.args.is_open c.args.address.now
    (shown_line line answer) ≡ true = λ answer decides. c.in_ok-is_shown.ensures answer decides ∙ c.if-is_shown.true in
    left.2 ∙
    shows_first c.args.is_open c.args.address.now items asked line (drop (c.loop-line.line-index + 1) lines) told left.0
    (subst (λ (ls : List Property). AreShown items asked ls left.0) here left.1)

pub loop-line-preserved : goal.loop-line-preserved
loop-line-preserved c = λ shown are.
    let items : List Item = c.args.self.now.items.now.items in
    let asked : Property → List Asked = asked_by c.args.self.now.items.now.uid c.args.self.now.questions.now in
    let lines : List Property = c.args.lines.now in
    let line : Property = c.line-item.result in
    let here : drop c.loop-line.line-index lines ≡ line ∷ drop (c.loop-line.line-index + 1) lines =
    at_drop_more (λ (xs : List Property). xs) lines c.loop-line.line-index line c.loop-line-test.true ∙
    ap (λ (l : Property). l ∷ drop (c.loop-line.line-index + 1) lines) (sym c.line-item.is) in
    let left = c.loop-line.invariant shown are in
    let told : (answer : Option Item) → Decides items (asked line) answer → is_some_asked c.args.is_open c.args.address.now
    (shown_line line answer) ≡ false = λ answer decides. c.in_ok-is_shown.ensures answer decides ∙ c.if-is_shown.false in
    let after = shows_later c.args.is_open c.args.address.now items asked line (drop (c.loop-line.line-index + 1) lines) told left.0
    (subst (λ (ls : List Property). AreShown items asked ls left.0) here left.1) in
    (after.0, after.1, left.2 ∙ after.2)

pub returns : goal.returns
returns c = λ shown are.
    let items : List Item = c.args.self.now.items.now.items in
    let asked : Property → List Asked = asked_by c.args.self.now.items.now.uid c.args.self.now.questions.now in
    let lines : List Property = c.args.lines.now in
    let left = c.loop-line.invariant shown are in
    let none : left.0 ≡ [] = subst (λ (ls : List Property). AreShown items asked ls left.0)
    (at_drop_all (λ (xs : List Property). xs) lines c.loop-line.line-index c.loop-line-test.false) left.1 in
    left.2 ∙ ap (list_any (is_asked c.args.is_open c.args.address.now)) none
