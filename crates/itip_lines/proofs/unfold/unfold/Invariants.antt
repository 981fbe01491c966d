use Rattle.std.proofs.Common.{◌≡◌, ◌≤◌, ℕ, length}
use Rattle.itip_lines.specs.Stretches.{texts_onto}
use Rattle.itip_lines.specs.UnfoldSteps.{last_number}
use Rattle.itip_lines.proofs.unfold.unfold.Given as goal

abbrev pub invariant-loop-line : goal.invariant-loop-line
invariant-loop-line l =
    ((at : ℕ) → texts_onto at l.fn.stretch l.fn.more.number l.fn.more.text.now ≡ texts_onto at l.line.items l.rest.number l.rest.text.now)
    × (length l.rest.text.now ≤ length l.fn.more.text.now)
    × (last_number l.rest ≤ last_number l.fn.more)

abbrev pub decreases-loop-line : goal.decreases-loop-line
decreases-loop-line l = length l.rest.text.now
