use Rattle.std.proofs.Common.{◌≡◌, ◌∙◌, sym, ap, subst, List, true, false, rules}
use Rattle.std.specs.Bool.{MatchBool}
use Rattle.itip_items.specs.declared.item.Item.{Item}
use Rattle.itip_view.specs.InWindow.{is_in_window}
use Rattle.itip_view.specs.Rows.{NoneStandsAtStart, day_of}
use Rattle.itip_view.proofs.InDays.{in_window_is, in_window_from}
use Rattle.itip_view.proofs.PlaceRows.{single_is, no_single, own_row}
use Rattle.itip_view.proofs.live_rows.UidView.single_place.Goals as goal

pub returns-then-not-has : goal.returns-then-not-has
returns-then-not-has c =
    let off : c.has.result ≡ false = search rules in
    no_single (c.args.self.now.items.now.items) c.args.self.now.window c.args.self.now.items.now.uid c.args.series.now c.requires.live
    c.requires.single
    (λ none within. let x : true ≡ false =
    sym (in_window_from c.args.self.now.window (day_of c.args.series.now.todo.start c.args.series.now.todo.due) within) ∙
    sym (ap (is_in_window c.args.self.now.window) c.day_of.ensures) ∙ sym c.has.ensures ∙ off in cc)

pub returns-then-is_replaced : goal.returns-then-is_replaced
returns-then-is_replaced c =
    let items : List Item = c.args.self.now.items.now.items in
    no_single items c.args.self.now.window c.args.self.now.items.now.uid c.args.series.now c.requires.live c.requires.single
    (λ none within. (subst (λ b. MatchBool b (NoneStandsAtStart items c.args.self.now.items.now.uid c.args.series.now.todo.start → ⊥)
    (NoneStandsAtStart items c.args.self.now.items.now.uid c.args.series.now.todo.start)) c.if-is_replaced.true c.is_replaced.ensures)
    none)

pub returns : goal.returns
returns c = λ row shown.
    let items : List Item = c.args.self.now.items.now.items in
    let there : c.has.result ≡ true = search rules in
    single_is items c.args.self.now.window c.args.self.now.items.now.uid c.args.series.now row c.requires.live c.requires.single
    (subst (λ b. MatchBool b (NoneStandsAtStart items c.args.self.now.items.now.uid c.args.series.now.todo.start → ⊥)
    (NoneStandsAtStart items c.args.self.now.items.now.uid c.args.series.now.todo.start)) c.if-is_replaced.false c.is_replaced.ensures)
    (in_window_is c.args.self.now.window (day_of c.args.series.now.todo.start c.args.series.now.todo.due)
    (sym (ap (is_in_window c.args.self.now.window) c.day_of.ensures) ∙ sym c.has.ensures ∙ there))
    (own_row c.args.self.now.items.now c.args.series.now _ shown.start shown.due _ row shown.dates shown.row_is)
