use Rattle.itip_state.proofs.Keeping.{least_upper}
use Rattle.itip_state.proofs.laws.least_upper_bound.Goals as goal

pub returns : goal.returns
returns c = least_upper
