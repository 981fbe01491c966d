use Rattle.std.proofs.Common.{◌≡◌, ◌∙◌, ap, sym, subst, inl, inr, Option, rules}
use Rattle.itip_moment.specs.declared.moment.Moment.{Moment}
use Rattle.itip_items.specs.declared.item.Item.{Item}
use Rattle.itip_view.specs.UnmadeRows.{HasDates, HasOwn, governing_item}
use Rattle.itip_view.specs.declared.unmade_row.RowKind.{RowKind}
use Rattle.itip_view.proofs.unmade_row.UnmadeRow.dates.Goals as goal

pub returns-in_ok-clone-in-Single-2 : goal.returns-in_ok-clone-in-Single-2
returns-in_ok-clone-in-Single-2 c =
    let item : Item = governing_item c.args.self.now.governing in
    let start : Option Moment = c.in_ok-clone-in-Single.field-0 in
    let due : Option Moment = c.in_ok-clone-in-Single-2.field-0 in
    let start_is : start ≡ c.item.result.now.todo.start = search rules in
    let due_is : due ≡ c.item.result.now.todo.due = search rules in
    let own : HasOwn item start due = record {
      start_is = start_is ∙ ap (λ (i : Item). i.todo.start) c.item.ensures;
      due_is = due_is ∙ ap (λ (i : Item). i.todo.due) c.item.ensures;
    } in
    elim c.in-Single.is [
      | inl single ↦ subst (λ (kind : RowKind). HasDates item kind start due) (sym single) own
      | inr (inl opaque) ↦ subst (λ (kind : RowKind). HasDates item kind start due) (sym opaque) own
      | inr (inr instance) ↦ subst (λ (kind : RowKind). HasDates item kind start due) (sym instance.1) own
    ]
