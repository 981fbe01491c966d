-- The error of a line whose place the caller has yet to add (our own form).
use Rattle.std.specs.Prelude.{ℕ, Some}
use Rattle.itip_todo.specs.declared.error.CauseError.{CauseError}
use Rattle.itip_todo.specs.declared.error.CauseError.TheVariants as cause_error
use Rattle.itip_todo.specs.declared.error.TodoCause.{TodoCause}
use Rattle.itip_todo.specs.declared.error.TodoError.{TodoError}
use Rattle.itip_todo.specs.declared.error.TodoError.TheVariants as error

-- if the error is a cause, P holds of it; of a failed allocation nothing is said
abbrev pub IfCause : CauseError → (TodoCause → Type 0) → Type 0
IfCause cause_error.NoMemory P = Unit {0}
IfCause (cause_error.Cause c) P = P c

-- the error, in the line of this number
abbrev pub error_at : ℕ → CauseError → TodoError
error_at number cause_error.NoMemory = error.NoMemory
error_at number (cause_error.Cause c) = error.Refused (record { cause = c; line = Some number })
