use Rattle.itip_page.specs.Escaped.{octet_markup}
use Rattle.itip_page.proofs.Putting.{octet_more}
use Rattle.itip_page.proofs.escape.put_octets.Goals as goal

pub loop-octet-preserved : goal.loop-octet-preserved
loop-octet-preserved c =
    octet_more octet_markup c.args.octets.now c.loop-octet.octet-index c.args.out.now.items c.loop-octet.out.items
    c.put_octet.new.out.items c.loop-octet-test.true c.loop-octet.invariant c.in_ok-put_octet.ensures
