use Rattle.std.proofs.Common.{◌≡◌, ◌∙◌, sym, ap, true}
use Rattle.itip_items.specs.declared.item.Item.{Item}
use Rattle.itip_view.specs.RowDays.{has_rows}
use Rattle.itip_state.proofs.Members.{on_ok_then}
use Rattle.itip_desk.specs.Entries.{entries_of}
use Rattle.itip_desk.specs.Index.{has, is_in}
use Rattle.itip_desk.proofs.Noting.{days_in, lines_in, entries_in, grown_twice, widens_same, widens_twice}
use Rattle.itip_desk.proofs.index.put_in.Goals as goal

pub returns-clause-ok : goal.returns-clause-ok
returns-clause-ok c =
    let item : Item = c.args.item.now in
    let rows : has_rows item ≡ true = sym (c.has_rows.ensures ∙ ap has_rows c.item.ensures) ∙ c.if-not-has_rows.false in
    on_ok_then c.put_lines.result
    (λ lines e. grown_twice (has c.args.index.now e) (has c.put_day.new.index e) (has c.put_lines.new.index e) (days_in item e)
    (lines_in item e)
    (is_in (entries_of item) e) (entries_in item e rows) (c.in_ok-put_day.ensures.ok e) (lines e))
    c.put_lines.ensures.ok

pub returns-clause-widens : goal.returns-clause-widens
returns-clause-widens c =
    let item : Item = c.args.item.now in
    let rows : has_rows item ≡ true = sym (c.has_rows.ensures ∙ ap has_rows c.item.ensures) ∙ c.if-not-has_rows.false in
    widens_twice (days_in item) (lines_in item) (is_in (entries_of item)) c.args.index.now c.put_day.new.index c.put_lines.new.index
    c.in_ok-put_day.ensures.ok c.put_lines.ensures.widens (λ e. entries_in item e rows)

pub returns-in_err-put_day-clause-widens : goal.returns-in_err-put_day-clause-widens
returns-in_err-put_day-clause-widens c =
    widens_same (is_in (entries_of c.args.item.now)) c.args.index.now c.put_day.new.index c.in_err-put_day.ensures.err
