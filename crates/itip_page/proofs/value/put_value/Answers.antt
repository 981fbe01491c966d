use Rattle.itip_page.specs.Value.{value_markup}
use Rattle.itip_page.proofs.Putting.{made_apart}
use Rattle.itip_page.proofs.value.put_value.Goals as goal

pub returns-clause-ok : goal.returns-clause-ok
returns-clause-ok c =
    made_apart c.extend_from_slice.result c.args.out.now.items c.extend_from_slice.new.self.items c.as_slice.result.now
    c.put_lines.new.out.items c.in_ok-markup.markup.items (value_markup c.args.value.now) c.extend_from_slice.ensures.items
    c.as_slice.ensures.value c.in_ok-put_lines.ensures c.in_ok-markup.ensures.items
