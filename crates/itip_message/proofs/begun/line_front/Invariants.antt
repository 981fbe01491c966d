use Rattle.std.proofs.Common.{length}
use Rattle.itip_message.specs.Begun.{PassesLine}
use Rattle.itip_message.proofs.begun.line_front.Given as goal

abbrev pub invariant-loop-rest : goal.invariant-loop-rest
invariant-loop-rest l = PassesLine l.line l.said l.is_behind l.rest

abbrev pub decreases-loop-rest : goal.decreases-loop-rest
decreases-loop-rest l = length l.rest
