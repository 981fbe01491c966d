use Rattle.std.proofs.Common.{◌≡◌, List, ℕ, subst, inl, inr, Option, Some}
use Rattle.itip_moment.specs.declared.moment.Moment.{Moment}
use Rattle.itip_recur.specs.ToDoShape.{IsShape}
use Rattle.itip_recur.specs.declared.series.Shape.TheVariants as shape
use Rattle.itip_items.specs.declared.item.Item.{Item}
use Rattle.itip_items.specs.declared.key.Key.TheVariants as key
use Rattle.itip_view.specs.RowsOfUid.{IsRowOf, IsWhole}
use Rattle.itip_view.specs.Rows.{occurrence_answers}
use Rattle.itip_view.specs.declared.row.RowId.TheVariants as id
use Rattle.itip_view.specs.declared.whole.Whole.{Whole}
use Rattle.itip_view.proofs.OneRow.{one_best}
use Rattle.itip_view.proofs.PlaceRows.{occurrence_is, single_has_none, opaque_has_none}
use Rattle.itip_view.proofs.live_rows.UidView.occurrence_place.Goals as goal

pub returns-in-Single : goal.returns-in-Single
returns-in-Single c = λ row at.
    let items : List Item = c.args.self.now.items.now.items in
    let whole : IsWhole items c.args.self.now.items.now.uid (Some c.in-Some.whole) =
    subst (λ (w : Option Whole). IsWhole items c.args.self.now.items.now.uid w) c.in-Some.is c.requires.whole in
    elim c.in-Single.is [
      | inl single ↦ single_has_none items c.args.self.now.window c.args.self.now.items.now.uid c.in-Some.whole.item.now whole.0
          c.args.at.now (subst (IsShape c.in-Some.whole.item.now.todo) single whole.1) c.requires.occurs
      | inr opaque ↦ opaque_has_none items c.args.self.now.window c.args.self.now.items.now.uid c.in-Some.whole.item.now whole.0
          c.args.at.now (subst (IsShape c.in-Some.whole.item.now.todo) opaque whole.1) c.requires.occurs
    ]

pub returns : goal.returns
returns c = λ row shown.
    let items : List Item = c.args.self.now.items.now.items in
    let uid : List ℕ = c.args.self.now.items.now.uid in
    let at : Moment = c.args.at.now in
    let item : Item = c.args.governing.now.item.now in
    let whole : IsWhole items uid (Some c.in-Some.whole) =
    subst (λ (w : Option Whole). IsWhole items uid w) c.in-Some.is c.requires.whole in
    let same : c.in-Some.whole.item.now ≡ item =
    one_best items (key.Series uid) c.in-Some.whole.item.now item whole.0.best c.requires.live.best in
    occurrence_is items c.args.self.now.window uid at item c.in-Repeats.series shown.due row c.requires.live
    (subst (λ (i : Item). IsShape i.todo (shape.Repeats c.in-Repeats.series)) same
    (subst (IsShape c.in-Some.whole.item.now.todo) c.in-Repeats.is whole.1)) c.requires.occurs c.requires.none c.requires.none_rules
    shown.dates.due_is
    (subst (λ (s : Option Moment). IsRowOf items item uid (id.At at) s shown.due (occurrence_answers uid at item) row) shown.dates.start_is
    shown.row_is)
