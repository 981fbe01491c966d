use Rattle.std.proofs.Common.{length}
use Rattle.itip_desk.specs.DeltaFormat.{Continues}
use Rattle.itip_desk.proofs.delta_format.read_delta.Given as goal

abbrev pub invariant-loop-message : goal.invariant-loop-message
invariant-loop-message l = Continues l.octets l.rest l.items.items

abbrev pub decreases-loop-message : goal.decreases-loop-message
decreases-loop-message l = length l.rest
