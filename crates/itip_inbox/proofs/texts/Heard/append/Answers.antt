use Rattle.itip_inbox.proofs.Hearing.{both_tell}
use Rattle.itip_inbox.proofs.texts.Heard.append.Goals as goal

pub returns-clause-tells : goal.returns-clause-tells
returns-clause-tells c = λ about kept before after one two.
    both_tell about kept before after c.args.self.now c.args.others _ c.in_ok-sum.ensures.sum c.in_ok-append.ensures.items
    c.in_ok-append-2.ensures.adds c.in_ok-append-3.ensures.items one two
