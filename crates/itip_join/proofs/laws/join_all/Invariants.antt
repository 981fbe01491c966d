use Rattle.std.proofs.Common.{take}
use Rattle.itip_join.specs.Bounds.{IsFoldOfJoins}
use Rattle.itip_join.proofs.laws.join_all.Given as goal

abbrev pub invariant-loop-value : goal.invariant-loop-value
invariant-loop-value g l = IsFoldOfJoins g.T.Join.le l.first (take l.value-index l.rest) l.all
