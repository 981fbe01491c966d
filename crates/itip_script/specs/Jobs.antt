-- The commands of a script that an office runs, in order (our own format).
use Rattle.std.specs.Prelude.{ℕ, List, [], ◌∷◌, Option, Some, None, unwrap_or, if◌then◌else◌, codes}
use Rattle.std.specs.List.{concat}
use Rattle.std.specs.Str.{bytes_eq}
use Rattle.itip_script.specs.Lines.{lines_of, content_of, is_command, before_command}
use Rattle.itip_script.specs.Orders.{before_space, after_space, number_of, ◌>>=◌}
use Rattle.itip_script.specs.declared.job.JobCommand.{JobCommand}
use Rattle.itip_script.specs.declared.job.JobCommand.TheVariants as command

-- A command, apart from where its bytes are.
pub data Errand : Type 0 where
  -- the desk takes the text
  takes : ℕ → List ℕ → Errand
  -- what the one desk keeps comes to the other
  carries : ℕ → ℕ → Errand
  looks : ℕ → Errand
  unknown : Errand

abbrev pub errand_of : JobCommand → Errand
errand_of (command.Take desk text) = takes desk text.now
errand_of (command.Carry from to) = carries from to
errand_of (command.Look desk) = looks desk
errand_of command.Malformed = unknown

-- The command that a line spells, with the bytes of the message after it.
abbrev pub spelled_errand : List ℕ → List ℕ → Option Errand
spelled_errand line message =
    if bytes_eq (before_space line) (codes "!take") then number_of (after_space line) >>= (λ desk. Some (takes desk message)) else
    if bytes_eq (before_space line) (codes "!carry") then
    number_of (before_space (after_space line)) >>= (λ from.
    number_of (after_space (after_space line)) >>= λ to. Some (carries from to)) else
    if bytes_eq (before_space line) (codes "!look") then number_of (after_space line) >>= (λ desk. Some (looks desk)) else None

abbrev pub errand_at : List ℕ → List ℕ → Errand
errand_at line message = unwrap_or (spelled_errand line message) unknown

-- One for each command line, with the lines after it up to the next.
abbrev pub errands_from : List (List ℕ) → List Errand
errands_from [] = []
errands_from (line ∷ lines) =
    if is_command line then errand_at (content_of line) (concat (before_command lines)) ∷ errands_from lines else errands_from lines

-- all commands of a script
abbrev pub errands_of : List ℕ → List Errand
errands_of script = errands_from (lines_of script)
