-- The messages of a delta as one scan finds them: its lines as they came, in groups up to each line that ends a calendar (our own form).
use Rattle.std.specs.Prelude.{◌≡◌, ◌<◌, ℕ, suc, Bool, true, false, ◌&&◌, ◌||◌, not, ◌==◌, List, [], ◌∷◌, ◌++◌, length, map, if◌then◌else◌}
use Rattle.std.specs.Prelude.{codes}
use Rattle.std.specs.List.{onto_first, concat, list_all}
use Rattle.std.specs.Char.{to_ascii_uppercase}
use Rattle.itip_lines.specs.UnfoldedLines.{is_blank}
use Rattle.itip_todo.specs.Participation.{same_text}

abbrev pub begins_blank : List ℕ → Bool
begins_blank [] = false
begins_blank (b ∷ bytes) = is_blank b

-- LF (10) ends a line, unless a blank follows it: that is a fold
abbrev pub ends_line : ℕ → List ℕ → Bool
ends_line b after = b == 10 && not (begins_blank after)

-- The lines of some bytes as they came, each with its folds and with its break, which the last may lack.
abbrev pub lines_of : List ℕ → List (List ℕ)
lines_of [] = []
lines_of (b ∷ bytes) = if ends_line b bytes then (b ∷ []) ∷ lines_of bytes else onto_first b (lines_of bytes)

-- the length of the first line in bytes
abbrev pub line_length : List ℕ → ℕ
line_length [] = 0
line_length (b ∷ bytes) = if ends_line b bytes then 1 else suc (line_length bytes)

-- CR (13) directly before LF is part of the break
abbrev pub is_return : ℕ → List ℕ → Bool
is_return b [] = false
is_return b (c ∷ bytes) = b == 13 && c == 10

-- What a line says: its bytes without breaks and without the blank after each. The flag says that a break comes before.
abbrev pub said_behind : Bool → List ℕ → List ℕ
said_behind behind [] = []
said_behind behind (b ∷ bytes) =
    if b == 10 then said_behind true bytes else
    if is_return b bytes || (behind && is_blank b) then said_behind false bytes else
    b ∷ said_behind false bytes

abbrev pub said : List ℕ → List ℕ
said line = said_behind false line

-- A line says a word, which is given in upper case, regardless of case.
abbrev pub says : List ℕ → List ℕ → Bool
says line word = same_text (map to_ascii_uppercase (said line)) word

abbrev pub is_empty : List ℕ → Bool
is_empty line = says line []

abbrev pub ends_calendar : List ℕ → Bool
ends_calendar line = says line (codes "END:VCALENDAR")

-- Lines in groups, each up to a line that ends a calendar, which the last group may lack.
abbrev pub groups_of : List (List ℕ) → List (List (List ℕ))
groups_of [] = []
groups_of (line ∷ lines) = if ends_calendar line then (line ∷ []) ∷ groups_of lines else onto_first line (groups_of lines)

-- A group of empty lines is no message.
abbrev pub texts_of : List (List (List ℕ)) → List (List ℕ)
texts_of [] = []
texts_of (group ∷ groups) = if list_all is_empty group then texts_of groups else concat group ∷ texts_of groups

-- the texts of the messages of a delta: the ones that it is cut into
unfoldable pub messages_of : List ℕ → List (List ℕ)
messages_of bytes = texts_of (groups_of (lines_of bytes))

-- the first message of some bytes, and what follows it
pub record CutsMessage (bytes message after : List ℕ) : Type 0 where
  pub messages : messages_of bytes ≡ message ∷ messages_of after
  pub shorter : length after < length bytes

-- the first message of some bytes, and what follows it, whatever bytes come after these
abbrev pub StaysCut : List ℕ → List ℕ → List ℕ → Type 0
StaysCut bytes message after = (more : List ℕ) → CutsMessage (bytes ++ more) message (after ++ more)
