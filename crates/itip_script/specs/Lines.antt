-- The physical lines of a script, and the stretches of lines between its commands (our own rule).
use Rattle.std.specs.Prelude.{◌≡◌, ◌<◌, ◌++◌, ℕ, suc, ◌-◌, Bool, false, ◌&&◌, ◌==◌, List, [], ◌∷◌, length, take, slice_index, if◌then◌else◌}
use Rattle.std.specs.List.{onto_first, concat, list_all}

-- The lines of some bytes, each with the LF that ends it, which the last may lack.
abbrev pub lines_of : List ℕ → List (List ℕ)
lines_of [] = []
lines_of (b ∷ bytes) = if b == 10 then (b ∷ []) ∷ lines_of bytes else onto_first b (lines_of bytes)

-- how many bytes the first line has, its LF included
abbrev pub line_length : List ℕ → ℕ
line_length [] = 0
line_length (b ∷ bytes) = if b == 10 then 1 else suc (line_length bytes)

-- The bytes without a CR at their end.
abbrev pub without_return : List ℕ → List ℕ
without_return bytes = if slice_index bytes (length bytes - 1) == 13 then take (length bytes - 1) bytes else bytes

-- What a line says: its bytes without the LF at its end, and without a CR before that LF.
abbrev pub content_of : List ℕ → List ℕ
content_of line =
    if slice_index line (length line - 1) == 10 then without_return (take (length line - 1) line) else line

-- a line without content
abbrev pub is_empty : List ℕ → Bool
is_empty line = length (content_of line) == 0

-- A line that begins with `!` is a command.
abbrev pub is_command : List ℕ → Bool
is_command [] = false
is_command (b ∷ bytes) = b == 33

-- the lines before the first command
abbrev pub before_command : List (List ℕ) → List (List ℕ)
before_command [] = []
before_command (line ∷ lines) = if is_command line then [] else line ∷ before_command lines

-- the lines from the first command on
abbrev pub from_command : List (List ℕ) → List (List ℕ)
from_command [] = []
from_command (line ∷ lines) = if is_command line then line ∷ lines else from_command lines

-- The first line of some bytes, and what follows it.
pub record IsFirstLine (bytes line after : List ℕ) : Type 0 where
  pub whole : bytes ≡ line ++ after
  pub lines : lines_of bytes ≡ line ∷ lines_of after
  pub some : 0 < length line

-- What is known while the lines before the first command are passed: the bytes that were passed, whether each of their lines is
-- empty, and that the rest completes them.
pub record Passes (bytes rest : List ℕ) (blank : Bool) : Type 0 where
  pub front : List ℕ
  pub whole : bytes ≡ front ++ rest
  pub text : front ++ concat (before_command (lines_of rest)) ≡ concat (before_command (lines_of bytes))
  pub blanks : (blank && list_all is_empty (before_command (lines_of rest))) ≡ list_all is_empty (before_command (lines_of bytes))
  pub after : from_command (lines_of rest) ≡ from_command (lines_of bytes)
