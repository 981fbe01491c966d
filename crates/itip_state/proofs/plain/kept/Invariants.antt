use Rattle.std.proofs.Common.{take}
use Rattle.itip_state.proofs.KeptOnes.{Collects}
use Rattle.itip_state.proofs.plain.kept.Given as goal

abbrev pub invariant-loop-item : goal.invariant-loop-item
invariant-loop-item l = Collects l.items (take l.item-index l.items) l.kept.items
