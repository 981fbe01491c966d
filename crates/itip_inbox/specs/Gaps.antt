-- An input that is cut in the gaps between its messages, where empty lines may be (RFC 5545 3.1 and 3.4; that messages are cut
-- this way is our own rule).
use Rattle.std.specs.Prelude.{◌≡◌, ◌≤◌, ◌⊎◌, ℕ, List, [], ◌∷◌, length}
use Rattle.std.specs.List.{AllByRecursion, concat}
use Rattle.itip_lines.specs.Reading.{text_limit}
use Rattle.itip_message.specs.Cutting.{IsCalendar, AreApart}
use Rattle.itip_inbox.specs.Compaction.{HasMessage}

-- an empty line, with its break: LF alone, or CR and LF
abbrev pub IsEmptyLine : List ℕ → Type 0
IsEmptyLine text = (text ≡ 10 ∷ []) ⊎ (text ≡ 13 ∷ (10 ∷ []))

abbrev pub IsCalendarOrEmptyLine : List ℕ → Type 0
IsCalendarOrEmptyLine text = IsCalendar text ⊎ IsEmptyLine text

-- A part ends in a gap, before, between or after messages, where the rest follows: it consists of whole calendars and empty lines, and
-- none of these is followed by a blank, which would make its last break a fold. The gap may have empty lines on both sides of the end.
pub record EndsInGap (part rest : List ℕ) : Type 0 where
  pub pieces : List (List ℕ)
  pub whole : part ≡ concat pieces
  pub each : AllByRecursion IsCalendarOrEmptyLine pieces
  pub apart : AreApart pieces rest

-- each of these parts but the last ends in a gap
abbrev pub EachEndsInGap : List (List ℕ) → Type 0
EachEndsInGap [] = Unit {0}
EachEndsInGap (part ∷ []) = Unit {0}
EachEndsInGap (part ∷ (next ∷ parts)) = EndsInGap part (concat (next ∷ parts)) × EachEndsInGap (next ∷ parts)

-- an input that was cut in gaps between messages into these parts
pub record IsPartedInGaps (whole : List ℕ) (parts : List (List ℕ)) : Type 0 where
  pub joined : whole ≡ concat parts
  pub gaps : EachEndsInGap parts

-- No message of these inputs has more bytes than a text may have. The empty lines before a message count, as they are part of it.
abbrev pub HaveShortMessages : List (List ℕ) → Type 0
HaveShortMessages inputs = (message : List ℕ) → HasMessage inputs message → length message ≤ text_limit
