-- The messages of a delta: its lines (RFC 5545 3.1) in pieces, each up to a line that ends a calendar (RFC 5545 3.4; that deltas are cut
-- this way is our own rule).
use Rattle.std.specs.Prelude.{◌≡◌, ℕ, Bool, false, IsTrue, List, [], ◌∷◌, ◌++◌, map, codes}
use Rattle.std.specs.List.{concat, AllByRecursion}
use Rattle.std.specs.Str.{str_to_ascii_uppercase}
use Rattle.itip_lines.specs.UnfoldedLines.{Piece, IsCutting, stretches, unfolded, lines_of}
use Rattle.itip_lines.specs.Stretches.{LacksBlank}
use Rattle.itip_todo.specs.Participation.{same_text}

-- an unfolded line is END:VCALENDAR, regardless of case
abbrev pub is_calendar_end : List ℕ → Bool
is_calendar_end line = same_text (str_to_ascii_uppercase line) (codes "END:VCALENDAR")

abbrev pub EndNoCalendar : List (List ℕ) → Type 0
EndNoCalendar lines = AllByRecursion (λ line. is_calendar_end line ≡ false) lines

-- Whole physical lines, each with its break. Unfolded, the last of them is END:VCALENDAR, and it is the only one.
pub record IsCalendar (text : List ℕ) : Type 0 where
  pub pieces : List Piece
  pub cut : IsCutting text pieces []
  pub front : List (List ℕ)
  pub line : List ℕ
  pub lines : unfolded (map (λ p. p.text) pieces) ≡ front ++ line ∷ []
  pub none_before : EndNoCalendar front
  pub ends : IsTrue (is_calendar_end line)

-- None of these texts is followed by a blank, which would make its last break a fold.
abbrev pub AreApart : List (List ℕ) → List ℕ → Type 0
AreApart [] rest = Unit {0}
AreApart (text ∷ texts) rest = LacksBlank (concat texts ++ rest) × AreApart texts rest

-- A text without END:VCALENDAR, or in which it is the last line and has no break.
pub record IsRest (text : List ℕ) : Type 0 where
  pub pieces : List Piece
  pub last : List ℕ
  pub cut : IsCutting text pieces last
  pub front : List (List ℕ)
  pub line : List ℕ
  pub lines : unfolded (stretches pieces last) ≡ front ++ line ∷ []
  pub none_before : EndNoCalendar front

-- the text as one message, unless it has no lines
abbrev pub unless_empty : List ℕ → List (List ℕ) → List (List ℕ)
unless_empty text [] = []
unless_empty text (line ∷ lines) = text ∷ []

-- The bytes are cut into these messages, after each line END:VCALENDAR. What is left is one more, unless it has only empty lines.
pub record IsCutInto (bytes : List ℕ) (messages : List (List ℕ)) : Type 0 where
  pub calendars : List (List ℕ)
  pub rest : List ℕ
  pub whole : bytes ≡ concat calendars ++ rest
  pub each : AllByRecursion IsCalendar calendars
  pub apart : AreApart calendars rest
  pub rest_is : IsRest rest
  pub messages_are : messages ≡ calendars ++ unless_empty rest (lines_of rest_is.pieces rest_is.last)
