use Rattle.std.proofs.Common.{◌≡◌, ◌≤◌, length}
use Rattle.itip_message.specs.Scanned.{said, said_behind}
use Rattle.itip_message.proofs.cutting.search_said.Given as goal

abbrev pub invariant-loop-rest : goal.invariant-loop-rest
invariant-loop-rest l = record { said_on : said_behind l.is_behind l.rest ≡ said l.line; within : length l.rest ≤ length l.line }

abbrev pub decreases-loop-rest : goal.decreases-loop-rest
decreases-loop-rest l = length l.rest
