use Rattle.std.proofs.Common.{◌≡◌, ◌∙◌, sym, ap, true, false, rules}
use Rattle.itip_view.specs.InWindow.{is_in_window}
use Rattle.itip_view.specs.Rows.{instance_day}
use Rattle.itip_view.proofs.InDays.{in_window_is, in_window_from}
use Rattle.itip_view.proofs.PlaceRows.{instance_is, no_instance, own_row}
use Rattle.itip_view.proofs.live_rows.UidView.live_instance_place.Goals as goal

pub returns-then-not-is_live : goal.returns-then-not-is_live
returns-then-not-is_live c =
    let off : c.is_live.result ≡ false = search rules in
    no_instance (c.args.self.now.items.now.items) c.args.self.now.window c.args.self.now.items.now.uid c.args.at.now c.args.item.now
    c.requires
    (λ live within. let x : true ≡ false = sym live ∙ sym c.is_live.ensures ∙ off in cc)

pub returns-then-not-has : goal.returns-then-not-has
returns-then-not-has c =
    let off : c.has.result ≡ false = search rules in
    no_instance (c.args.self.now.items.now.items) c.args.self.now.window c.args.self.now.items.now.uid c.args.at.now c.args.item.now
    c.requires
    (λ live within. let x : true ≡ false =
    sym (in_window_from c.args.self.now.window (instance_day c.args.at.now c.args.item.now.todo.start) within) ∙
    sym (ap (is_in_window c.args.self.now.window) c.instance_day.ensures) ∙ sym c.has.ensures ∙ off in cc)

pub returns : goal.returns
returns c = λ row shown.
    let on : c.is_live.result ≡ true = search rules in
    let there : c.has.result ≡ true = search rules in
    instance_is (c.args.self.now.items.now.items) c.args.self.now.window c.args.self.now.items.now.uid c.args.at.now c.args.item.now
    row c.requires (sym c.is_live.ensures ∙ on)
    (in_window_is c.args.self.now.window (instance_day c.args.at.now c.args.item.now.todo.start)
    (sym (ap (is_in_window c.args.self.now.window) c.instance_day.ensures) ∙ sym c.has.ensures ∙ there))
    (own_row c.args.self.now.items.now c.args.item.now _ shown.start shown.due _ row shown.dates shown.row_is)
