use Rattle.itip_page.specs.Escaped.{escaped}
use Rattle.itip_page.proofs.Putting.{made_apart}
use Rattle.itip_page.proofs.escape.put_escaped.Goals as goal

pub returns-clause-ok : goal.returns-clause-ok
returns-clause-ok c =
    made_apart c.extend_from_slice.result c.args.out.now.items c.extend_from_slice.new.self.items c.as_slice.result.now
    c.put_text.new.out.items c.in_ok-markup.markup.items (escaped c.args.text.now) c.extend_from_slice.ensures.items
    c.as_slice.ensures.value c.in_ok-put_text.ensures c.in_ok-markup.ensures.items
