use Rattle.std.proofs.Common.{take}
use Rattle.itip_state.specs.Held.{HoldKept}
use Rattle.itip_state.proofs.state.State.of_shared.Given as goal

abbrev pub invariant-loop-item : goal.invariant-loop-item
invariant-loop-item l = HoldKept (take l.item-index l.items) l.kept
