use Rattle.std.proofs.Common.{List, length}
use Rattle.itip_lines.specs.Lookup.{StandsFor}
use Rattle.itip_lines.specs.declared.line.Param.{Param}
use Rattle.itip_lines.proofs.lookup.values_of.Given as goal

-- the rest stands for what the text stands for
abbrev pub invariant-loop-param : goal.invariant-loop-param
invariant-loop-param l = (params : List Param) → StandsFor l.name params l.fn.text → StandsFor l.name params l.rest

abbrev pub decreases-loop-param : goal.decreases-loop-param
decreases-loop-param l = length l.rest
