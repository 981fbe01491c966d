use Rattle.std.proofs.Common.{length}
use Rattle.itip_script.specs.Lines.{Passes}
use Rattle.itip_script.proofs.line.leading_stretch.Given as goal

abbrev pub invariant-loop-line : goal.invariant-loop-line
invariant-loop-line l = Passes l.bytes l.rest l.is_blank

abbrev pub decreases-loop-line : goal.decreases-loop-line
decreases-loop-line l = length l.rest
