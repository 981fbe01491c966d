use Rattle.itip_state.proofs.Hearing.{hold_nothing}
use Rattle.itip_state.proofs.state.State.empty.Goals as goal

pub invariant_of-result : goal.invariant_of-result
invariant_of-result c = rw c.empty.ensures hold_nothing.held
