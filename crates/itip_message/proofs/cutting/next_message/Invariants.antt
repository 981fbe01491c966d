use Rattle.std.proofs.Common.{length}
use Rattle.itip_message.specs.Passing.{Passes}
use Rattle.itip_message.proofs.cutting.next_message.Given as goal

abbrev pub invariant-loop-line : goal.invariant-loop-line
invariant-loop-line l = Passes l.bytes l.rest l.all_empty

abbrev pub decreases-loop-line : goal.decreases-loop-line
decreases-loop-line l = length l.rest
