use Rattle.std.proofs.Common.{List, ℕ}
use Rattle.itip_state.specs.Held.{UidState}
use Rattle.itip_state.specs.Undone.{AreUndone}
use Rattle.itip_state.proofs.hear.take_back.Given as goal

abbrev pub invariant-loop-change : goal.invariant-loop-change
invariant-loop-change l = (start : List (List ℕ × UidState)) → AreUndone l.initial.changes.items l.initial.held start →
    AreUndone l.changes.items l.held start

abbrev pub decreases-loop-change : goal.decreases-loop-change
decreases-loop-change l = goal.left-loop-change l
