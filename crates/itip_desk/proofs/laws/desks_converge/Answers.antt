use Rattle.itip_desk.proofs.Steps.{same_heard}
use Rattle.itip_desk.proofs.laws.desks_converge.Goals as goal

pub returns : goal.returns
returns c = same_heard
