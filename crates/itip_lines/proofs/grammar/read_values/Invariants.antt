use Rattle.std.proofs.Common.{length}
use Rattle.itip_lines.proofs.ValueLists.{HasWritten}
use Rattle.itip_lines.proofs.grammar.read_values.Given as goal

abbrev pub invariant-loop-value : goal.invariant-loop-value
invariant-loop-value l = HasWritten l.fn.text l.rest l.fn.out.items l.out.items

abbrev pub decreases-loop-value : goal.decreases-loop-value
decreases-loop-value l = length l.rest
