-- The number under which a refusal of a message is shown (our own).
use Rattle.std.specs.Prelude.{ℕ}
use Rattle.itip_lines.specs.declared.error.LineCause.{LineCause}
use Rattle.itip_lines.specs.declared.error.LineCause.TheVariants as line
use Rattle.itip_todo.specs.declared.error.TodoCause.{TodoCause}
use Rattle.itip_todo.specs.declared.error.TodoCause.TheVariants as todo
use Rattle.itip_items.specs.declared.error.MethodCause.{MethodCause}
use Rattle.itip_items.specs.declared.error.MethodCause.TheVariants as method
use Rattle.itip_message.specs.declared.error.MessageCause.{MessageCause}
use Rattle.itip_message.specs.declared.error.MessageCause.TheVariants as cause
use Rattle.itip_message.specs.declared.error.MessageRefusal.{MessageRefusal}

abbrev pub line_number : LineCause → ℕ
line_number line.TooLong = 1
line_number line.BadLine = 2
line_number line.NotUtf8 = 3
line_number line.TooMany = 14

abbrev pub todo_number : TodoCause → ℕ
todo_number (todo.Missing p) = 9
todo_number (todo.Twice p) = 10
todo_number (todo.BadValue p) = 11
todo_number todo.Range = 12
todo_number todo.TooMany = 14
todo_number todo.SameAttendee = 15

abbrev pub method_number : MethodCause → ℕ
method_number (method.Missing p) = 9
method_number (method.Twice p) = 10
method_number method.Range = 12
method_number method.AddForm = 13

abbrev pub number_of_cause : MessageCause → ℕ
number_of_cause (cause.Lines c) = line_number c
number_of_cause cause.Nesting = 4
number_of_cause cause.NoCalendar = 5
number_of_cause cause.Version = 6
number_of_cause cause.Method = 7
number_of_cause cause.NoTodo = 8
number_of_cause (cause.Todo c) = todo_number c
number_of_cause (cause.Misfit c) = method_number c
number_of_cause cause.ManyTodos = 14
number_of_cause cause.LargeForm = 14

abbrev pub number_of : MessageRefusal → ℕ
number_of refusal = number_of_cause refusal.cause
