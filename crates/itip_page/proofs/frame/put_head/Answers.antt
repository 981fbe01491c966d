use Rattle.itip_page.specs.Page.{head_markup}
use Rattle.itip_page.proofs.Putting.{made_apart}
use Rattle.itip_page.proofs.frame.put_head.Goals as goal

pub returns-clause-ok : goal.returns-clause-ok
returns-clause-ok c =
    made_apart c.extend_from_slice.result c.args.out.now.items c.extend_from_slice.new.self.items c.as_slice.result.now
    c.put_head_parts.new.out.items c.new-markup.result.items (head_markup c.args.window c.args.today.number c.args.number)
    c.extend_from_slice.ensures.items c.as_slice.ensures.value c.in_ok-put_head_parts.ensures c.new-markup.ensures.items
