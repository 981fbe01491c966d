use Rattle.itip_state.proofs.Dying.{AddsSoFar}
use Rattle.itip_state.proofs.due.share_due.Given as goal

abbrev pub invariant-loop-pair : goal.invariant-loop-pair
invariant-loop-pair l = AddsSoFar l.fn.sequence l.entries.map l.fn.items.items l.items.items l.pair-iterator
