-- Where a to-do is not what its method needs, and which refusals name a to-do and a line (our own rule).
use Rattle.std.specs.Prelude.{◌≡◌, ◌↔◌, ℕ, Bool, true, false, ◌||◌, List, [], ◌∷◌, Option, Some, None, is_some}
use Rattle.std.specs.List.{filter}
use Rattle.itip_lines.specs.declared.error.LineCause.TheVariants as line_cause
use Rattle.itip_lines.specs.declared.line.NumberedLine.{NumberedLine}
use Rattle.itip_todo.specs.Table.{property_named, is_same}
use Rattle.itip_todo.specs.declared.error.TodoCause.TheVariants as todo_cause
use Rattle.itip_todo.specs.declared.property_name.PropertyName.{PropertyName}
use Rattle.itip_todo.specs.declared.property_name.PropertyName.TheVariants as name
use Rattle.itip_items.specs.declared.error.MethodCause.{MethodCause}
use Rattle.itip_items.specs.declared.error.MethodCause.TheVariants as cause
use Rattle.itip_message.specs.declared.error.MessageCause.{MessageCause}
use Rattle.itip_message.specs.declared.error.MessageCause.TheVariants as causes
use Rattle.itip_message.specs.declared.error.MessageRefusal.{MessageRefusal}

-- a line with the name of the property
abbrev pub is_named : PropertyName → NumberedLine → Bool
is_named p line = is_same (property_named line.line.name) p

-- a line with the name of a property that makes a to-do one of an instance or lets it recur
abbrev pub is_recurring : NumberedLine → Bool
is_recurring line = is_named name.RecurrenceId line || (is_named name.RRule line || is_named name.RDate line)

abbrev pub first_line : List NumberedLine → Option ℕ
first_line [] = None
first_line (line ∷ lines) = Some line.number

abbrev pub second_line : List NumberedLine → Option ℕ
second_line [] = None
second_line (line ∷ lines) = first_line lines

-- the line of a to-do that isn't what its method needs; none if something is missing
abbrev pub line_of_cause : MethodCause → List NumberedLine → Option ℕ
line_of_cause (cause.Missing p) lines = None
line_of_cause (cause.Twice p) lines = second_line (filter (is_named p) lines)
line_of_cause cause.Range lines = first_line (filter (is_named name.RecurrenceId) lines)
line_of_cause cause.AddForm lines = first_line (filter is_recurring lines)

-- the cause is one of a single to-do
abbrev pub is_of_todo : MessageCause → Bool
is_of_todo (causes.Lines c) = false
is_of_todo causes.Nesting = false
is_of_todo causes.NoCalendar = false
is_of_todo causes.Version = false
is_of_todo causes.Method = false
is_of_todo causes.NoTodo = false
is_of_todo causes.ManyTodos = false
is_of_todo (causes.Todo c) = true
is_of_todo (causes.Misfit c) = true
is_of_todo causes.LargeForm = true

-- what is missing has no line
abbrev pub MisfitsIn : MethodCause → Option ℕ → Type 0
MisfitsIn (cause.Missing p) line = line ≡ None
MisfitsIn (cause.Twice p) line = Unit {0}
MisfitsIn cause.Range line = Unit {0}
MisfitsIn cause.AddForm line = Unit {0}

-- The line that may go with a cause. For nesting, the beginning, VERSION and METHOD there may be one or none: the wrong line, or none if
-- an END, all lines, VERSION or METHOD is missing.
abbrev pub FaultIn : MessageCause → Option ℕ → Type 0
FaultIn (causes.Lines c) line = (line ≡ None) ↔ (c ≡ line_cause.TooLong)
FaultIn causes.Nesting line = Unit {0}
FaultIn causes.NoCalendar line = Unit {0}
FaultIn causes.Version line = Unit {0}
FaultIn causes.Method line = Unit {0}
FaultIn causes.NoTodo line = line ≡ None
FaultIn causes.ManyTodos line = is_some line ≡ true
FaultIn (causes.Todo c) line = (line ≡ None) ↔ ((p : PropertyName) × (c ≡ todo_cause.Missing p))
FaultIn (causes.Misfit c) line = MisfitsIn c line
FaultIn causes.LargeForm line = line ≡ None

-- the refusal names a to-do exactly if its cause is one of a to-do, and a line that may go with the cause
abbrev pub NamesPlace : MessageRefusal → Type 0
NamesPlace refusal = (is_some refusal.todo ≡ is_of_todo refusal.cause) × FaultIn refusal.cause refusal.line
