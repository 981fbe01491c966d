use Rattle.itip_message.specs.Building.{octet_value}
use Rattle.itip_message.proofs.Building.{octet_more}
use Rattle.itip_message.proofs.builder.push_text.Goals as goal

pub loop-octet-preserved : goal.loop-octet-preserved
loop-octet-preserved c =
    octet_more octet_value c.args.words.now c.loop-octet.octet-index c.args.out.now.items c.loop-octet.out.items
    c.push_octet.new.out.items c.loop-octet-test.true c.loop-octet.invariant c.in_ok-push_octet.ensures
