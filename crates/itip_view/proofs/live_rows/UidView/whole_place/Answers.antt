use Rattle.std.proofs.Common.{subst, List, Option, Some}
use Rattle.itip_recur.specs.ToDoShape.{IsShape}
use Rattle.itip_items.specs.declared.item.Item.{Item}
use Rattle.itip_view.specs.RowsOfUid.{IsWhole}
use Rattle.itip_view.specs.declared.whole.Whole.{Whole}
use Rattle.itip_view.proofs.PlaceRows.{opaque_is, no_whole_repeats, own_row}
use Rattle.itip_view.proofs.live_rows.UidView.whole_place.Goals as goal

pub returns-in-Opaque : goal.returns-in-Opaque
returns-in-Opaque c = λ row shown.
    let items : List Item = c.args.self.now.items.now.items in
    let whole : IsWhole items c.args.self.now.items.now.uid (Some c.in-Some.whole) =
    subst (λ (w : Option Whole). IsWhole items c.args.self.now.items.now.uid w) c.in-Some.is c.requires in
    opaque_is items c.args.self.now.window c.args.self.now.items.now.uid c.in-Some.whole.item.now row whole.0
    (subst (IsShape c.in-Some.whole.item.now.todo) c.in-Opaque.is whole.1)
    (own_row c.args.self.now.items.now c.in-Some.whole.item.now _ shown.start shown.due _ row shown.dates shown.row_is)

pub returns-in-Repeats : goal.returns-in-Repeats
returns-in-Repeats c =
    let items : List Item = c.args.self.now.items.now.items in
    let whole : IsWhole items c.args.self.now.items.now.uid (Some c.in-Some.whole) =
    subst (λ (w : Option Whole). IsWhole items c.args.self.now.items.now.uid w) c.in-Some.is c.requires in
    no_whole_repeats items c.args.self.now.window c.args.self.now.items.now.uid c.in-Some.whole.item.now whole.0 c.in-Repeats.field-0
    (subst (IsShape c.in-Some.whole.item.now.todo) c.in-Repeats.is whole.1)
