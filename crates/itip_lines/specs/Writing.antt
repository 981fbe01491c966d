-- The octets of a line as it is written, with folds (RFC 5545 3.1).
use Rattle.std.specs.Prelude.{◌≡◌, ℕ, ◌+◌, ◌≤◌, Bool, cond, nat_le, nat_lt, List, [], ◌∷◌, ◌++◌}
use Rattle.itip_lines.specs.Lawful.{line_text}
use Rattle.itip_lines.specs.declared.line.Line.{Line}

-- the octets of the line without folds and without its break
unfoldable pub unfolded_text : Line → List ℕ
unfolded_text line = line_text line.name line.params line.value

-- how many octets follow in the UTF-8 sequence that the octet begins, 0 if it begins none
abbrev pub following : ℕ → ℕ
following b = cond (nat_lt b 192) 0 (cond (nat_lt b 224) 1 (cond (nat_lt b 240) 2 3))

-- after `used` octets of a piece the octet fits on it too, if its whole sequence ends within 75 octets
abbrev pub fits : ℕ → ℕ → Bool
fits used b = nat_le (used + 1 + following b) 75

-- these octets after `used` octets of a piece, with folds and the last break; the SPACE of a fold counts
abbrev pub folded : ℕ → List ℕ → List ℕ
folded used [] = 13 ∷ (10 ∷ [])
folded used (b ∷ bs) = cond (fits used b) (b ∷ folded (used + 1) bs) (13 ∷ (10 ∷ (32 ∷ (b ∷ folded 2 bs))))

-- the line as it is written
unfoldable pub written : Line → List ℕ
written line = folded 0 (unfolded_text line)

abbrev pub all_written : List Line → List ℕ
all_written [] = []
all_written (line ∷ lines) = written line ++ all_written lines

-- `text` was written after `used` octets of a piece, and the last piece has `now` octets: whatever follows,
-- it is folded as if all had been folded at once
pub record Writes (old : List ℕ) (used : ℕ) (text new : List ℕ) (now : ℕ) : Type 0 where
  pub within : now ≤ 75
  pub on : (more : List ℕ) → new ++ folded now more ≡ old ++ folded used (text ++ more)

-- nothing that was there before has changed
abbrev pub Extends : List ℕ → List ℕ → Type 0
Extends old new = (tail : List ℕ) × (new ≡ old ++ tail)
