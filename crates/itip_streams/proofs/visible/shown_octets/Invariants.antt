use Rattle.std.proofs.Common.{◌≡◌, ◌++◌, length}
use Rattle.itip_streams.specs.Visible.{shown_after}
use Rattle.itip_streams.proofs.visible.shown_octets.Given as goal

abbrev pub invariant-loop-rest : goal.invariant-loop-rest
invariant-loop-rest l =
    l.shown.items ++ shown_after l.keeps_line_ends l.before l.rest ≡ shown_after l.keeps_line_ends 0 l.octets

abbrev pub decreases-loop-rest : goal.decreases-loop-rest
decreases-loop-rest l = length l.rest
