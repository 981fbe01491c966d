use Rattle.std.proofs.Common.{length}
use Rattle.itip_lines.proofs.ParamLists.{HasWrittenParams}
use Rattle.itip_lines.proofs.grammar.read_tail.Given as goal

abbrev pub invariant-loop-after : goal.invariant-loop-after
invariant-loop-after l = HasWrittenParams l.fn.text l.rest l.params.items

abbrev pub decreases-loop-after : goal.decreases-loop-after
decreases-loop-after l = length l.rest
