use Rattle.itip_state.proofs.Dying.{AreDueOrLeft}
use Rattle.itip_state.proofs.due.all_due.Given as goal

abbrev pub invariant-loop-slot : goal.invariant-loop-slot
invariant-loop-slot l = AreDueOrLeft l.due l.entries.map l.slot-iterator
