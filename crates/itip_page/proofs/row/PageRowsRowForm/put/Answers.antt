use Rattle.itip_page.specs.RowMarkup.{row_markup}
use Rattle.itip_page.proofs.Putting.{made_apart}
use Rattle.itip_page.proofs.row.PageRowsRowForm.put.Goals as goal

pub returns-clause-ok : goal.returns-clause-ok
returns-clause-ok c =
    made_apart c.extend_from_slice.result c.args.out.now.items c.extend_from_slice.new.self.items c.as_slice.result.now
    c.put_row.new.out.items c.in_ok-markup.markup.items (row_markup c.args.self.now.today.number c.args.row.now)
    c.extend_from_slice.ensures.items c.as_slice.ensures.value c.in_ok-put_row.ensures c.in_ok-markup.ensures.items
