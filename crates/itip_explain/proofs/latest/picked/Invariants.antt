use Rattle.std.proofs.Common.{take}
use Rattle.std.specs.Option.{option_copied}
use Rattle.itip_explain.proofs.Picking.{PicksSoFar}
use Rattle.itip_explain.proofs.latest.picked.Given as goal

abbrev pub invariant-loop-one : goal.invariant-loop-one
invariant-loop-one l = PicksSoFar (take l.one-index l.sorted) l.picked.items (option_copied l.last)
