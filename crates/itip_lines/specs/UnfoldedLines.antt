-- The unfolded lines of a text (RFC 5545 3.1), and its cutting at line breaks.
use Rattle.std.specs.Prelude.{◌≡◌, ◌≢◌, ℕ, ◌+◌, Bool, true, false, cond, ◌||◌, ◌==◌, List, [], ◌∷◌, ◌++◌, map}
use Rattle.std.specs.List.{All, AllByRecursion, filter}

-- a line break is CR (13) directly followed by LF (10), or LF alone (our own rule)
pub data Break : Type 0 where
  lf : Break
  crlf : Break

abbrev pub break_bytes : Break → List ℕ
break_bytes lf = 10 ∷ []
break_bytes crlf = 13 ∷ (10 ∷ [])

-- a stretch of the text with the break that ends it
pub record Piece : Type 0 where
  pub text : List ℕ
  pub end : Break

abbrev pub HasNoLf : List ℕ → Type 0
HasNoLf text = All (λ b. b ≢ 10) text

-- the stretch has no LF, and if a bare LF ends it, no CR before that LF
pub record IsPiece (piece : Piece) : Type 0 where
  pub no_lf : HasNoLf piece.text
  pub bare : piece.end ≡ lf → (front : List ℕ) → piece.text ≢ front ++ 13 ∷ []

-- the pieces in a row, and what follows the last break
abbrev pub joined : List Piece → List ℕ → List ℕ
joined [] last = last
joined (p ∷ ps) last = p.text ++ (break_bytes p.end ++ joined ps last)

-- the bytes are cut into these pieces and this last stretch
pub record IsCutting (bytes : List ℕ) (pieces : List Piece) (last : List ℕ) : Type 0 where
  pub whole : bytes ≡ joined pieces last
  pub each : AllByRecursion IsPiece pieces
  pub last_stretch : HasNoLf last

abbrev pub stretches : List Piece → List ℕ → List (List ℕ)
stretches pieces last = map (λ p. p.text) pieces ++ last ∷ []

-- SPACE or HTAB
abbrev pub is_blank : ℕ → Bool
is_blank b = b == 32 || b == 9

-- A break is a fold if the next stretch begins with a blank: without that blank, the stretch continues the line.
abbrev pub unfolded_onto : List ℕ → List (List ℕ) → List (List ℕ)
unfolded_onto line [] = line ∷ []
unfolded_onto line ([] ∷ cs) = line ∷ unfolded_onto [] cs
unfolded_onto line ((b ∷ c) ∷ cs) = cond (is_blank b) (unfolded_onto (line ++ c) cs) (line ∷ unfolded_onto (b ∷ c) cs)

-- the unfolded lines of the stretches of a text; no break precedes the first stretch
abbrev pub unfolded : List (List ℕ) → List (List ℕ)
unfolded [] = []
unfolded (c ∷ cs) = unfolded_onto c cs

abbrev pub without_empty : List (List ℕ) → List (List ℕ)
without_empty [] = []
without_empty ([] ∷ ls) = without_empty ls
without_empty ((b ∷ l) ∷ ls) = (b ∷ l) ∷ without_empty ls

-- the lines of a cutting: unfolded, without the empty ones
abbrev pub lines_of : List Piece → List ℕ → List (List ℕ)
lines_of pieces last = without_empty (unfolded (stretches pieces last))

-- ---- the same lines, each with the number of its first stretch

-- A text, and the number of the stretch in which it begins. Each stretch is one physical line, numbered from 1.
pub record NumberedText : Type 0 where
  pub number : ℕ
  pub text : List ℕ

abbrev pub text_at : ℕ → List ℕ → NumberedText
text_at number text = record { number = number; text = text }

-- the line began in stretch `at`, and the first of the other stretches has the number `next`
abbrev pub numbered_onto : ℕ → List ℕ → ℕ → List (List ℕ) → List NumberedText
numbered_onto at line next [] = text_at at line ∷ []
numbered_onto at line next ([] ∷ cs) = text_at at line ∷ numbered_onto next [] (next + 1) cs
numbered_onto at line next ((b ∷ c) ∷ cs) =
    cond (is_blank b) (numbered_onto at (line ++ c) (next + 1) cs) (text_at at line ∷ numbered_onto next (b ∷ c) (next + 1) cs)

abbrev pub numbered : List (List ℕ) → List NumberedText
numbered [] = []
numbered (c ∷ cs) = numbered_onto 1 c 2 cs

abbrev pub has_octets : List ℕ → Bool
has_octets [] = false
has_octets (b ∷ text) = true

abbrev pub with_octets : List NumberedText → List NumberedText
with_octets ts = filter (λ t. has_octets t.text) ts

-- the lines of a cutting, with their numbers
abbrev pub numbered_lines_of : List Piece → List ℕ → List NumberedText
numbered_lines_of pieces last = with_octets (numbered (stretches pieces last))

-- the texts without their numbers
abbrev pub texts_of : List NumberedText → List (List ℕ)
texts_of ts = map (λ t. t.text) ts
