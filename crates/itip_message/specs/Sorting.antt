-- The lines sorted so far, and what they come to with those that follow (our own form).
use Rattle.std.specs.Prelude.{◌≡◌, List, ◌∷◌, ◌++◌}
use Rattle.itip_lines.specs.declared.line.NumberedLine.{NumberedLine}
use Rattle.itip_message.specs.Frame.{calendar_lines, todos_within}
use Rattle.itip_message.specs.declared.frame.Placed.{Placed}
use Rattle.itip_message.specs.declared.sort.Component.{Component}
use Rattle.itip_message.specs.declared.sort.Sorted.{Sorted}

-- the properties directly in the VCALENDAR
abbrev pub calendar_with : Sorted → List Placed → List NumberedLine
calendar_with sorted rest = sorted.calendar.items ++ calendar_lines rest

-- each VTODO with its properties
abbrev pub todos_with : Sorted → List Placed → List Component
todos_with sorted rest = sorted.closed.items ++ todos_within sorted.open rest

-- with one more line sorted, the result with the rest stays the same
pub record Continues (old new : Sorted) (placed : Placed) (rest : List Placed) : Type 0 where
  pub calendar : calendar_with new rest ≡ calendar_with old (placed ∷ rest)
  pub todos : todos_with new rest ≡ todos_with old (placed ∷ rest)
