use Rattle.std.proofs.Common.{◌≡◌}
use Rattle.itip_todo.specs.Heads.{head_from, head_of}
use Rattle.itip_todo.proofs.HeadOrder.{HasRoom}
use Rattle.itip_todo.proofs.head.head.Given as goal

abbrev pub invariant-loop-left : goal.invariant-loop-left
invariant-loop-left l = (head_from l.head l.left l.rest ≡ head_of l.fn.octets) × HasRoom l.head l.left

abbrev pub decreases-loop-left : goal.decreases-loop-left
decreases-loop-left l = l.left
