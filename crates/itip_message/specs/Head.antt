-- The head of a message: VERSION, METHOD, and how many to-dos there are (RFC 5545 3.7, RFC 5546 3.4; the number is our own limit).
use Rattle.std.specs.Prelude.{ℕ, Bool, false, cond, List, [], ◌∷◌, length, drop, codes, nat_lt, Option, Some, None, Result, Ok, Err}
use Rattle.std.specs.List.{filter}
use Rattle.std.specs.Str.{str_to_ascii_uppercase}
use Rattle.itip_lines.specs.declared.line.NumberedLine.{NumberedLine}
use Rattle.itip_todo.specs.Participation.{same_text}
use Rattle.itip_items.specs.Items.{method_named}
use Rattle.itip_items.specs.declared.kind.Method.{Method}
use Rattle.itip_message.specs.Frame.{calendar_lines, todos}
use Rattle.itip_message.specs.Refusals.{at_line}
use Rattle.itip_message.specs.declared.frame.Placed.{Placed}
use Rattle.itip_message.specs.declared.sort.Component.{Component}
use Rattle.itip_message.specs.declared.error.MessageRefusal.{MessageRefusal}
use Rattle.itip_message.specs.declared.error.MessageCause.TheVariants as cause

-- the most to-dos of a message
abbrev pub todo_limit : ℕ
todo_limit = 1000

-- the lines with this name
abbrev pub named : List ℕ → List NumberedLine → List NumberedLine
named name lines = filter (λ (line : NumberedLine). same_text line.line.name name) lines

-- the value of the only line of a list
abbrev pub only_value : List NumberedLine → Option (List ℕ)
only_value (line ∷ []) = Some line.line.value
only_value [] = None
only_value (line ∷ other ∷ others) = None

-- the wrong line of a property that has to appear once: the second of its lines, or the only one
abbrev pub odd_line : List NumberedLine → Option ℕ
odd_line [] = None
odd_line (line ∷ []) = Some line.number
odd_line (line ∷ other ∷ others) = Some other.number

abbrev pub is_version : Option (List ℕ) → Bool
is_version None = false
is_version (Some value) = same_text value (codes "2.0")

abbrev pub method_in : Option (List ℕ) → Option Method
method_in None = None
method_in (Some value) = method_named (str_to_ascii_uppercase value)

-- the line on which the first of these begins
abbrev pub first_begins : List Component → Option ℕ
first_begins [] = None
first_begins (component ∷ components) = Some component.begins

-- the method, if there are to-dos and not too many; without a method, a refusal at this line of METHOD
abbrev pub counted : List Component → Option ℕ → Option Method → Result Method MessageRefusal
counted components line None = Err (at_line cause.Method line)
counted components line (Some m) =
    cond (nat_lt todo_limit (length components)) (Err (at_line cause.ManyTodos (first_begins (drop todo_limit components))))
    (cond (nat_lt 0 (length components)) (Ok m) (Err (at_line cause.NoTodo None)))

-- the method of a message with these properties directly in the VCALENDAR and these to-dos: VERSION is checked first, then METHOD, then
-- the number of to-dos
abbrev pub head_of : List NumberedLine → List Component → Result Method MessageRefusal
head_of calendar components =
    cond (is_version (only_value (named (codes "VERSION") calendar)))
    (counted components (odd_line (named (codes "METHOD") calendar)) (method_in (only_value (named (codes "METHOD") calendar))))
    (Err (at_line cause.Version (odd_line (named (codes "VERSION") calendar))))

-- the method of a message with these placed lines
abbrev pub head : List Placed → Result Method MessageRefusal
head placed = head_of (calendar_lines placed) (todos placed)
