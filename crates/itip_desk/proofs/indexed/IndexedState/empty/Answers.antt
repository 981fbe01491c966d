use Rattle.itip_desk.proofs.Between.{empty_index}
use Rattle.itip_desk.proofs.indexed.IndexedState.empty.Goals as goal

pub invariant_of-result : goal.invariant_of-result
invariant_of-result c = empty_index c.empty.result c.empty-2.result c.empty.ensures c.empty-2.ensures
