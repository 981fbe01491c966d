use Rattle.std.proofs.Common.{◌≡◌, ◌∙◌, sym, subst, List, ℕ, max, true, false, rules}
use Rattle.itip_moment.specs.declared.moment.Moment.{Moment}
use Rattle.itip_items.specs.declared.item.Item.{Item}
use Rattle.itip_items.specs.declared.key.Key.TheVariants as key
use Rattle.itip_view.specs.RowsOfUid.{IsRowOf, asked_by, in_turn}
use Rattle.itip_view.specs.Rows.{IsStartFrom, IsDueFrom}
use Rattle.itip_view.specs.declared.row.RowId.TheVariants as id
use Rattle.itip_view.proofs.OneRow.{one_best}
use Rattle.itip_view.proofs.PlaceRows.{range_is, no_range}
use Rattle.itip_view.proofs.live_rows.UidView.range_place.Goals as goal

one_from : (u v : List ℕ) (a b : Moment) → key.Range u a ≡ key.Range v b → a ≡ b
one_from u v a b e = cc

pub returns-then-not-is_live : goal.returns-then-not-is_live
returns-then-not-is_live c =
    let off : c.is_live.result ≡ false = search rules in
    no_range c.args.self.now.items.now.items c.args.self.now.window c.args.self.now.items.now.uid c.args.at.now c.requires.rules.0
    c.args.range.now.item.now c.requires.none c.requires.rules.1
    (λ live. let x : true ≡ false = sym live ∙ sym c.is_live.ensures ∙ off in cc)

pub returns : goal.returns
returns c = λ row shown.
    let items : List Item = c.args.self.now.items.now.items in
    let uid : List ℕ = c.args.self.now.items.now.uid in
    let at : Moment = c.args.at.now in
    let item : Item = c.args.range.now.item.now in
    let from : Moment = c.requires.rules.0 in
    let on : c.is_live.result ≡ true = search rules in
    let series : c.args.series.now ≡ c.requires.occurs.item =
    one_best items (key.Series uid) c.args.series.now c.requires.occurs.item c.requires.live.best c.requires.occurs.live.best in
    let same : c.in-Range.id ≡ from =
    one_from c.in-Range.field-0 uid c.in-Range.id from (sym c.in-Range.is ∙ c.requires.rules.1.stands.best.about) in
    range_is items c.args.self.now.window uid at from item shown.start shown.due row c.requires.occurs c.requires.none c.requires.rules.1
    (sym c.is_live.ensures ∙ on)
    (subst (λ (m : Moment). IsStartFrom item.todo.start m at shown.start) same shown.dates.start_is)
    (subst (λ (m : Moment). IsDueFrom item.todo.due m at shown.due) same shown.dates.due_is)
    (subst (λ (s : Item). IsRowOf items item uid (id.At at) shown.start shown.due
    (asked_by uid (in_turn c.args.at item.own (max item.own s.own))) row) series shown.row_is)
