use Rattle.std.proofs.Common.{◌≡◌, ◌∙◌, ◌||◌, ◌<◌, ◌≤◌, ℕ, List, length, take, take_all, get_or, sym, ap, subst, inr}
use Rattle.itip_todo.specs.Properties.{Property}
use Rattle.itip_items.specs.declared.item.Item.{Item}
use Rattle.itip_desk.specs.Entries.{same_entry, name_entry, address_number, line_entry, line_entries}
use Rattle.itip_desk.specs.Index.{has, is_in}
use Rattle.itip_desk.proofs.Noting.{grows, line_more, line_part, widens_part}
use Rattle.itip_desk.proofs.index.put_lines.Goals as goal

pub returns-in_err-put_name-clause-widens : goal.returns-in_err-put_name-clause-widens
returns-in_err-put_name-clause-widens c =
    let item : Item = c.args.item.now in
    let lines : List Property = item.todo.attendees in
    widens_part (is_in (line_entries item lines)) (is_in (line_entries item (take c.loop-line.line-index lines))) c.args.index.now
    c.put_name.new.index (λ e. c.in_err-put_name.ensures.err e ∙ c.loop-line.invariant e)
    (λ e. line_part item e lines c.loop-line.line-index)

pub loop-line-preserved : goal.loop-line-preserved
loop-line-preserved c = λ e.
    let item : Item = c.args.item.now in
    let i : ℕ = c.loop-line.line-index in
    let line : Property = c.line-item.result in
    let same : c.as_slice-line-items.result.now ≡ item.todo.attendees = c.as_slice-line-items.ensures ∙
    ap (λ (j : Item). j.todo.attendees) c.item.ensures in
    let named : c.attendee_number.result ≡ address_number line.value = c.attendee_number.ensures ∙
    ap address_number c.value.ensures in
    c.in_ok-put_name.ensures.ok e ∙
    ap (λ (n : ℕ). has c.loop-line.index e || same_entry e (inr (name_entry item n))) named ∙
    grows (has c.args.index.now e) (has c.loop-line.index e) (same_entry e (line_entry item line))
    (is_in (line_entries item (take i item.todo.attendees)) e) (c.loop-line.invariant e) ∙
    ap (λ b. has c.args.index.now e || b)
    (sym (line_more item e item.todo.attendees i line (subst (λ (xs : List Property). i < length xs) same c.loop-line-test.true)
    (c.line-item.is ∙ ap (λ (xs : List Property). get_or xs i line) same)))

pub returns-clause-ok : goal.returns-clause-ok
returns-clause-ok c = λ e.
    let item : Item = c.args.item.now in
    let same : c.as_slice-line-items.result.now ≡ item.todo.attendees = c.as_slice-line-items.ensures ∙
    ap (λ (j : Item). j.todo.attendees) c.item.ensures in
    c.loop-line.invariant e ∙ ap (λ (xs : List Property). has c.args.index.now e || is_in (line_entries item xs) e)
    (take_all c.loop-line.line-index item.todo.attendees
    (subst (λ (xs : List Property). length xs ≤ c.loop-line.line-index) same c.loop-line-test.false))

pub returns-clause-widens : goal.returns-clause-widens
returns-clause-widens c =
    let item : Item = c.args.item.now in
    let lines : List Property = item.todo.attendees in
    widens_part (is_in (line_entries item lines)) (is_in (line_entries item (take c.loop-line.line-index lines))) c.args.index.now
    c.loop-line.index c.loop-line.invariant (λ e. line_part item e lines c.loop-line.line-index)
