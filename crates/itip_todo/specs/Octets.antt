-- Octets that are the lines of a to-do from BEGIN:VTODO to END:VTODO (RFC 5545 3.6.2).
use Rattle.std.specs.Prelude.{◌≡◌, ◌≤◌, ℕ, List, [], ◌∷◌, ◌++◌, length, map, codes}
use Rattle.itip_lines.specs.Reading.{ReadsLines, count_limit, text_limit}
use Rattle.itip_lines.specs.declared.line.Line.{Line}
use Rattle.itip_todo.specs.Reading.{ReadsTodo}
use Rattle.itip_todo.specs.Written.{content_of, contents_octets, bare}
use Rattle.itip_todo.specs.declared.todo.Todo.{Todo}

-- The octets are those of these lines, and are read as them within the limits of a text; and the lines between
-- BEGIN:VTODO and END:VTODO are read as this to-do.
pub record AreReadAs (octets : List ℕ) (todo : Todo) : Type 0 where
  pub lines : List Line
  pub inside : List Line
  pub spelled : octets ≡ contents_octets (map content_of lines)
  pub are : length lines ≤ count_limit → length octets ≤ text_limit → ReadsLines octets lines
  pub framed : map content_of lines ≡ bare (codes "BEGIN") (codes "VTODO") ∷
      (map content_of inside ++ bare (codes "END") (codes "VTODO") ∷ [])
  pub reads : ReadsTodo inside todo
