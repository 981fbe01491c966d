use Rattle.itip_view.proofs.Occurring.{shape_occurs}
use Rattle.itip_view.proofs.occurring_whole.ready.Goals as goal

pub returns : goal.returns
returns c = λ heard uid is.
    (is.0, shape_occurs heard uid c.args.whole c.in_ok-occurring.occurring c.in_ok-occurring.ensures is)
