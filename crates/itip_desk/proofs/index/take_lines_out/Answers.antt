use Rattle.std.proofs.Common.{◌≡◌, ◌∙◌, ◌&&◌, ◌<◌, ◌≤◌, ℕ, List, not, length, take, take_all, get_or, sym, ap, subst, inr}
use Rattle.itip_todo.specs.Properties.{Property}
use Rattle.itip_items.specs.declared.item.Item.{Item}
use Rattle.itip_desk.specs.Entries.{same_entry, address_number, line_entry, line_entries}
use Rattle.itip_desk.specs.Index.{has, is_in}
use Rattle.itip_desk.specs.declared.entry.NameEntry.{NameEntry}
use Rattle.itip_desk.proofs.Noting.{shrinks, line_more}
use Rattle.itip_desk.proofs.index.take_lines_out.Goals as goal

pub loop-line-preserved : goal.loop-line-preserved
loop-line-preserved c =
    let item : Item = c.args.item.now in
    let i : ℕ = c.loop-line.line-index in
    let line : Property = c.line-item.result in
    let same : c.as_slice-line-items.result.now ≡ item.todo.attendees = c.as_slice-line-items.ensures in
    let named : c.attendee_number.result ≡ address_number line.value = c.attendee_number.ensures ∙ ap address_number c.value.ensures in
    record {
      uid = c.loop-line.invariant.uid;
      item = c.loop-line.invariant.item;
      out = λ e. c.drop_name.ensures e ∙
          ap (λ (k : NameEntry). has c.loop-line.index e && not (same_entry e (inr k)))
          (λ j. record { attendee = named j; uid = c.loop-line.invariant.uid j; item = c.loop-line.invariant.item j }) ∙
          shrinks (has c.args.index.now e) (has c.loop-line.index e) (same_entry e (line_entry item line))
          (is_in (line_entries item (take i item.todo.attendees)) e) (c.loop-line.invariant.out e) ∙
          ap (λ b. has c.args.index.now e && not b)
          (sym (line_more item e item.todo.attendees i line (subst (λ (xs : List Property). i < length xs) same c.loop-line-test.true)
          (c.line-item.is ∙ ap (λ (xs : List Property). get_or xs i line) same)));
    }

pub returns : goal.returns
returns c = λ e.
    let item : Item = c.args.item.now in
    c.loop-line.invariant.out e ∙ ap (λ (xs : List Property). has c.args.index.now e && not (is_in (line_entries item xs) e))
    (take_all c.loop-line.line-index item.todo.attendees
    (subst (λ (xs : List Property). length xs ≤ c.loop-line.line-index) c.as_slice-line-items.ensures c.loop-line-test.false))
