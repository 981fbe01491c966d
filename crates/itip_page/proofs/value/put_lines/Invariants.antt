use Rattle.std.proofs.Common.{◌≡◌, ◌++◌, length}
use Rattle.itip_page.specs.Value.{behind, lines_of, lines_markup, value_markup}
use Rattle.itip_page.proofs.value.put_lines.Given as goal

abbrev pub invariant-loop-shown : goal.invariant-loop-shown
invariant-loop-shown l =
    l.out.items ++ lines_markup (behind l.line.items (lines_of l.rest)) ≡ l.initial.out.items ++ value_markup l.value

abbrev pub decreases-loop-shown : goal.decreases-loop-shown
decreases-loop-shown l = length l.rest
