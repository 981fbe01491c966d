use Rattle.std.proofs.Common.{◌≡◌, ◌∙◌, sym, List, Some, None, true, false, rules, subst}
use Rattle.itip_todo.specs.Properties.{Property}
use Rattle.itip_items.specs.declared.item.Item.{Item}
use Rattle.itip_view.specs.RowDays.{has_rows}
use Rattle.itip_explain.specs.Asking.{AddsAskings, AsksBy, is_of_whole}
use Rattle.itip_explain.specs.declared.asked.Asking.{Asking}
use Rattle.itip_explain.proofs.Askings.{AsksLines, adds_both, adds_as, for_itself, for_whole, either, only_itself}
use Rattle.itip_explain.proofs.asked.add_item.Goals as goal

pub returns-in_ok-add_lines-2 : goal.returns-in_ok-add_lines-2
returns-in_ok-add_lines-2 c =
    let item : Item = c.args.item.now in
    let before : List Asking = c.args.found.now.items in
    let middle : List Asking = c.add_lines.new.found.items in
    let after : List Asking = c.add_lines-then-is_of_whole.new.found.items in
    let shown : c.has_rows.result ≡ true = search rules in
    let on : has_rows item ≡ true = sym c.has_rows.ensures ∙ shown in
    let whole : is_of_whole item.key ≡ true = sym c.is_of_whole.ensures ∙ c.if-is_of_whole.true in
    let first : AddsAskings (AsksLines (Some item.key) item.todo.attendees) before middle =
    subst (λ (ls : List Property). AddsAskings (AsksLines (Some item.key) ls) before middle) c.as_slice-lines.ensures
    c.in_ok-add_lines.ensures in
    let second : AddsAskings (AsksLines None item.todo.attendees) middle after =
    subst (λ (ls : List Property). AddsAskings (AsksLines None ls) middle after) c.as_slice-lines.ensures c.in_ok-add_lines-2.ensures in
    adds_both (AsksLines (Some item.key) item.todo.attendees) (AsksLines None item.todo.attendees) (AsksBy item) before middle after first
    second (for_itself item on) (for_whole item on whole) (either item on)

pub returns-else-is_of_whole : goal.returns-else-is_of_whole
returns-else-is_of_whole c =
    let item : Item = c.args.item.now in
    let before : List Asking = c.args.found.now.items in
    let after : List Asking = c.add_lines.new.found.items in
    let shown : c.has_rows.result ≡ true = search rules in
    let on : has_rows item ≡ true = sym c.has_rows.ensures ∙ shown in
    let whole : is_of_whole item.key ≡ false = sym c.is_of_whole.ensures ∙ c.if-is_of_whole.false in
    let first : AddsAskings (AsksLines (Some item.key) item.todo.attendees) before after =
    subst (λ (ls : List Property). AddsAskings (AsksLines (Some item.key) ls) before after) c.as_slice-lines.ensures
    c.in_ok-add_lines.ensures in
    adds_as (AsksLines (Some item.key) item.todo.attendees) (AsksBy item) before after first (only_itself item on whole)
