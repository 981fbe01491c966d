-- Nested components: BEGIN and END, and where each line belongs (RFC 5545 3.4 and 3.6; the depth is our own limit).
use Rattle.std.specs.Prelude.{ℕ, nat_lt, cond, ◌&&◌, List, [], ◌∷◌, ◌++◌, length, codes, Option, Some, None, Result, Ok, Err}
use Rattle.std.specs.Str.{str_to_ascii_uppercase}
use Rattle.itip_lines.specs.declared.line.Line.{Line}
use Rattle.itip_lines.specs.declared.line.NumberedLine.{NumberedLine}
use Rattle.itip_todo.specs.Participation.{same_text}
use Rattle.itip_items.specs.MethodNeeds.{is_begin, is_end}
use Rattle.itip_message.specs.declared.frame.Placed.{Placed}
use Rattle.itip_message.specs.declared.frame.Placed.TheVariants.{CalendarLine, TodoBegins, TodoLine}
use Rattle.itip_message.specs.declared.sort.Component.{Component}
use Rattle.itip_message.specs.declared.error.MessageCause.TheVariants.{Nesting, NoCalendar}
use Rattle.itip_message.specs.declared.error.MessageRefusal.{MessageRefusal}
use Rattle.itip_message.specs.Refusals.{at_line}

-- the deepest nesting of components, counting the VCALENDAR
abbrev pub depth_limit : ℕ
depth_limit = 32

-- the name of the component that a BEGIN or END names, regardless of case
abbrev pub component_name : Line → List ℕ
component_name line = str_to_ascii_uppercase line.value

-- what the BEGIN of a component adds, on the line with this number, inside these open components, the innermost first
abbrev pub opening : List (List ℕ) → List ℕ → ℕ → List Placed
opening (calendar ∷ []) name number = cond (same_text name (codes "VTODO")) (TodoBegins number ∷ []) []
opening [] name number = []
opening (inner ∷ outer ∷ others) name number = []

-- what a property inside these open components adds: other components are left out with everything in them
abbrev pub property : List (List ℕ) → NumberedLine → List Placed
property (calendar ∷ []) line = CalendarLine line ∷ []
property (inner ∷ calendar ∷ []) line = cond (same_text inner (codes "VTODO")) (TodoLine line ∷ []) []
property [] line = []
property (inner ∷ outer ∷ other ∷ others) line = []

-- open components with the innermost first, where it was last
abbrev pub innermost_first : List (List ℕ) → List (List ℕ)
innermost_first [] = []
innermost_first (name ∷ names) = innermost_first names ++ name ∷ []

abbrev pub with_front : List Placed → Result (List Placed) MessageRefusal → Result (List Placed) MessageRefusal
with_front front (Ok placed) = Ok (front ++ placed)
with_front front (Err refusal) = Err refusal

-- badly nested at this line, or at none if an END is missing
abbrev pub nested : Option ℕ → Result (List Placed) MessageRefusal
nested line = Err (at_line Nesting line)

-- The lines inside these open components, the innermost first. No line may follow the end of the outermost.
abbrev pub place : List (List ℕ) → List NumberedLine → Result (List Placed) MessageRefusal
place [] [] = Ok []
place (name ∷ open_names) [] = nested None
place [] (line ∷ lines) = nested (Some line.number)
place (name ∷ open_names) (line ∷ lines) =
    cond (is_begin line.line)
    (cond (nat_lt (length (name ∷ open_names)) depth_limit)
    (with_front (opening (name ∷ open_names) (component_name line.line) line.number)
    (place (component_name line.line ∷ name ∷ open_names) lines))
    (nested (Some line.number)))
    (cond (is_end line.line)
    (cond (same_text (component_name line.line) name) (place open_names lines) (nested (Some line.number)))
    (with_front (property (name ∷ open_names) line) (place (name ∷ open_names) lines)))

-- the placed lines of a message, which has to begin with BEGIN:VCALENDAR
abbrev pub frame : List NumberedLine → Result (List Placed) MessageRefusal
frame [] = Err (at_line NoCalendar None)
frame (line ∷ lines) =
    cond (is_begin line.line && same_text (component_name line.line) (codes "VCALENDAR")) (place (codes "VCALENDAR" ∷ []) lines)
    (Err (at_line NoCalendar (Some line.number)))

-- the properties directly in the VCALENDAR
abbrev pub calendar_lines : List Placed → List NumberedLine
calendar_lines [] = []
calendar_lines (CalendarLine line ∷ placed) = line ∷ calendar_lines placed
calendar_lines (TodoBegins number ∷ placed) = calendar_lines placed
calendar_lines (TodoLine line ∷ placed) = calendar_lines placed

-- a VTODO that begins on the line with this number, before its properties
abbrev pub begun : ℕ → Component
begun number = record { begins = number; lines = [] }

abbrev pub with_line : Component → NumberedLine → Component
with_line component line = record { begins = component.begins; lines = component.lines ++ line ∷ [] }

-- the open VTODO with its properties, and each VTODO that begins after it
abbrev pub todos_from : Component → List Placed → List Component
todos_from first [] = first ∷ []
todos_from first (TodoLine line ∷ placed) = todos_from (with_line first line) placed
todos_from first (TodoBegins number ∷ placed) = first ∷ todos_from (begun number) placed
todos_from first (CalendarLine line ∷ placed) = todos_from first placed

-- each VTODO with its properties, in order
abbrev pub todos : List Placed → List Component
todos [] = []
todos (TodoBegins number ∷ placed) = todos_from (begun number) placed
todos (CalendarLine line ∷ placed) = todos placed
todos (TodoLine line ∷ placed) = todos placed

-- the open VTODO, if there is one, with its properties, and each VTODO that begins after it
abbrev pub todos_within : Option Component → List Placed → List Component
todos_within None placed = todos placed
todos_within (Some first) placed = todos_from first placed
