use Rattle.std.proofs.Common.{length}
use denote.Shadow.{shadow}
use denote.Text.{Utf8}
use Rattle.itip_todo.proofs.Putting.{HasPut}
use Rattle.itip_todo.proofs.list.put_in_zone.Given as goal

-- the rest is a text, and the moments before it are in the set
abbrev pub invariant-loop-front : goal.invariant-loop-front
invariant-loop-front l = shadow (Utf8 l.rest) × HasPut l.line.params l.line.value l.rest l.fn.set l.set

abbrev pub decreases-loop-front : goal.decreases-loop-front
decreases-loop-front l = length l.rest
