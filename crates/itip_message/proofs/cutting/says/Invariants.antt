use Rattle.std.proofs.Common.{◌≡◌, length}
use Rattle.itip_message.specs.Scanned.{says}
use Rattle.itip_message.proofs.cutting.says.Given as goal

abbrev pub invariant-loop-b : goal.invariant-loop-b
invariant-loop-b l = says l.rest l.left ≡ says l.line l.word

abbrev pub decreases-loop-b : goal.decreases-loop-b
decreases-loop-b l = length l.rest
