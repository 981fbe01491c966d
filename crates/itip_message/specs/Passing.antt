-- What is known while lines, bytes and messages are passed (our own form).
use Rattle.std.specs.Prelude.{◌≡◌, ◌<◌, ℕ, Bool, false, ◌&&◌, ◌||◌, ◌==◌, List, ◌∷◌, ◌++◌, length}
use Rattle.std.specs.List.{AllByRecursion, concat, list_all}
use Rattle.itip_lines.specs.UnfoldedLines.{is_blank}
use Rattle.itip_message.specs.Scanned.{lines_of, is_return, said, is_empty, ends_calendar}

-- the first line of some bytes, and what follows it
pub record IsFirstLine (bytes line after : List ℕ) : Type 0 where
  pub whole : bytes ≡ line ++ after
  pub lines : lines_of bytes ≡ line ∷ lines_of after
  pub some : 0 < length line

-- the first line of some bytes, and what follows it, whatever bytes come after these
abbrev pub StaysFirstLine : List ℕ → List ℕ → List ℕ → Type 0
StaysFirstLine bytes line after = (more : List ℕ) → IsFirstLine (bytes ++ more) line (after ++ more)

-- A byte of a line break, or the blank after one.
abbrev pub is_left_out : ℕ → Bool → List ℕ → Bool
is_left_out b behind after = b == 10 || is_return b after || (behind && is_blank b)

-- the first byte that a line says, and fewer bytes, which say the rest
pub record SaysFirst (line : List ℕ) (b : ℕ) (after : List ℕ) : Type 0 where
  pub said : said line ≡ b ∷ said after
  pub shorter : length after < length line

-- Lines of which none ends a calendar were passed, and the rest is left. The flag says whether all of them are empty.
pub record Passes (bytes rest : List ℕ) (blank : Bool) : Type 0 where
  pub passed : List (List ℕ)
  pub whole : bytes ≡ concat passed ++ rest
  pub lines : lines_of bytes ≡ passed ++ lines_of rest
  pub none_ends : AllByRecursion (λ line. ends_calendar line ≡ false) passed
  pub blank_is : blank ≡ list_all is_empty passed

-- Lines of which none ends a calendar were passed, whatever bytes come after these.
abbrev pub StaysPassing : List ℕ → List ℕ → Bool → Type 0
StaysPassing bytes rest blank = (more : List ℕ) → Passes (bytes ++ more) (rest ++ more) blank
