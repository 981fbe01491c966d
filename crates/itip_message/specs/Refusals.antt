-- Refusals of lines, of to-dos and of items, as those of a message (our own form).
use Rattle.std.specs.Prelude.{ℕ, Option, Some, None}
use Rattle.itip_lines.specs.declared.error.LineRefusal.{LineRefusal}
use Rattle.itip_lines.specs.declared.error.LineError as line_error
use Rattle.itip_todo.specs.declared.error.TodoRefusal.{TodoRefusal}
use Rattle.itip_todo.specs.declared.error.TodoError as todo_error
use Rattle.itip_items.specs.declared.error.FormError.{FormError}
use Rattle.itip_items.specs.declared.error.FormError.TheVariants as form_error
use Rattle.itip_message.specs.declared.error.MessageCause.{MessageCause}
use Rattle.itip_message.specs.declared.error.MessageCause.TheVariants as cause
use Rattle.itip_message.specs.declared.error.MessageRefusal.{MessageRefusal}
use Rattle.itip_message.specs.declared.error.ReadError.{ReadError}
use Rattle.itip_message.specs.declared.error.ReadError.TheVariants as error

-- for this cause, at a line or at none, and of no to-do
abbrev pub at_line : MessageCause → Option ℕ → MessageRefusal
at_line c line = record { cause = c; todo = None; line = line }

-- for this cause, in the to-do with this number, at a line of it or at none
abbrev pub in_todo : ℕ → MessageCause → Option ℕ → MessageRefusal
in_todo number c line = record { cause = c; todo = Some number; line = line }

-- a refusal of the lines, as one of the message
abbrev pub of_lines : LineRefusal → MessageRefusal
of_lines refusal = at_line (cause.Lines refusal.cause) refusal.line

-- a refusal of the to-do with this number, as one of the message
abbrev pub of_todo : ℕ → TodoRefusal → MessageRefusal
of_todo number refusal = in_todo number (cause.Todo refusal.cause) refusal.line

-- the to-do with this number gives a canonical form that is too large
abbrev pub large_form : ℕ → MessageRefusal
large_form number = in_todo number cause.LargeForm None

-- an error of the lines, as one of the message
abbrev pub line_gives : line_error.LineError → ReadError
line_gives line_error.TheVariants.NoMemory = error.NoMemory
line_gives (line_error.TheVariants.Refused refusal) = error.Refused (of_lines refusal)

-- an error of the to-do with this number, as one of the message
abbrev pub todo_gives : ℕ → todo_error.TodoError → ReadError
todo_gives number todo_error.TheVariants.NoMemory = error.NoMemory
todo_gives number (todo_error.TheVariants.Refused refusal) = error.Refused (of_todo number refusal)

-- an error of the items, as one of the message
abbrev pub form_gives : FormError → ReadError
form_gives form_error.NoMemory = error.NoMemory
form_gives (form_error.TooLarge todo) = error.Refused (large_form todo)

-- P holds for the refusal, unless the error is a failed allocation
abbrev pub IfRefused : ReadError → (MessageRefusal → Type 0) → Type 0
IfRefused error.NoMemory P = Unit {0}
IfRefused (error.Refused refusal) P = P refusal
