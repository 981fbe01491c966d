use Rattle.std.proofs.Common.{arith}
use Rattle.itip_lines.proofs.LinePlaces.{line_is, places_short}
use Rattle.itip_lines.proofs.seen_line.SeenLine.new.Goals as goal

pub overflow_cast-result : goal.overflow_cast-result
overflow_cast-result c = omega (arith, places_short _ _ _ c.requires)

pub overflow_cast-result-2 : goal.overflow_cast-result-2
overflow_cast-result-2 c = omega (arith, places_short _ _ _ c.requires)

pub invariant_of-result : goal.invariant_of-result
invariant_of-result c = (c.requires, tt)

pub returns : goal.returns
returns c = λ line e. line_is _ c.result-1.given.0.is_line line e
