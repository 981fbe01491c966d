use Rattle.std.proofs.Common.{◌≤◌}
use Rattle.std.specs.Prelude.{IsTrue}
use Rattle.itip_lines.specs.Stretches.{texts_behind, HasRead}
use Rattle.itip_lines.specs.UnfoldSteps.{AreUtf8, left_behind, last_behind, number_limit}
use Rattle.itip_lines.proofs.read.read_lines.Given as goal

abbrev pub invariant-loop-rest : goal.invariant-loop-rest
invariant-loop-rest l =
    HasRead l.fn.text l.read.lines.items l.rest × (last_behind l.rest ≤ number_limit) × (IsTrue l.utf8 → AreUtf8 (texts_behind l.rest))

abbrev pub decreases-loop-rest : goal.decreases-loop-rest
decreases-loop-rest l = left_behind l.rest
