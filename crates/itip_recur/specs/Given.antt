-- Whether a to-do has a property that makes it recur, as a test (our own form).
use Rattle.std.specs.Prelude.{ℕ, ◌==◌, ◌||◌, not, Bool, List, length}
use Rattle.itip_lines.specs.declared.line.Line.{Line}
use Rattle.itip_moment.specs.declared.moment.Moment.{Moment}
use Rattle.itip_todo.specs.Table.{has_period}

-- one of these lists has a value, or a period is among the lines
abbrev pub are_given : List (List ℕ) → List Moment → List Moment → List Line → Bool
are_given rules rdates exdates lines = not (length rules == 0) ||
    (not (length rdates == 0) || (not (length exdates == 0) || has_period lines))
