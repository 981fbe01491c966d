use Rattle.std.proofs.Common.{◌≡◌, ◌∙◌, sym, true}
use Rattle.itip_items.specs.declared.item.Item.{Item}
use Rattle.itip_view.specs.RowDays.{has_rows}
use Rattle.itip_desk.specs.Entries.{entries_of}
use Rattle.itip_desk.specs.Index.{has, is_in}
use Rattle.itip_desk.proofs.Noting.{days_in, lines_in, entries_in, shrunk_twice}
use Rattle.itip_desk.proofs.index.take_out.Goals as goal

pub returns : goal.returns
returns c = λ e.
    let item : Item = c.args.item.now in
    let rows : has_rows item ≡ true = sym c.has_rows.ensures ∙ c.if-not-has_rows.false in
    shrunk_twice (has c.args.index.now e) (has c.take_day_out-owner.new.index e) (has c.take_lines_out.new.index e) (days_in item e)
    (lines_in item e) (is_in (entries_of item) e) (entries_in item e rows) (c.take_day_out-owner.ensures.out e) (c.take_lines_out.ensures e)
