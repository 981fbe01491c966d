-- A line that is written, folded into pieces (RFC 5545 3.1); that each piece is as long as possible is our own rule.
use Rattle.std.specs.Prelude.{◌≡◌, ℕ, ◌+◌, ◌≤◌, ◌<◌, List, [], ◌∷◌, ◌++◌, length, encode_utf8}
use Rattle.std.specs.Char.{IsScalar}
use Rattle.std.specs.Str.{IsUtf8}

-- a piece has at most 75 octets, and splits no character
pub record IsFoldedPiece (piece : List ℕ) : Type 0 where
  pub short : length piece ≤ 75
  pub utf8 : IsUtf8 piece

-- characters follow, and the first of them would end past the 75 octets
pub record IsFull (piece rest : List ℕ) : Type 0 where
  pub some : 0 < length rest
  pub over : (c : ℕ) (more : List ℕ) → IsScalar c → rest ≡ encode_utf8 c ++ more → 75 < length piece + length (encode_utf8 c)

-- the text is cut into these pieces, in order: the first begins with `lead`, and each of the others with SPACE (32)
abbrev pub AreFoldedPieces : List ℕ → List ℕ → List (List ℕ) → Type 0
AreFoldedPieces lead text [] = ⊥
AreFoldedPieces lead text (p ∷ []) = (p ≡ lead ++ text) × IsFoldedPiece p
AreFoldedPieces lead text (p ∷ (q ∷ qs)) =
    (front : List ℕ) × (rest : List ℕ) × (text ≡ front ++ rest) × (p ≡ lead ++ front) × IsFoldedPiece p × IsFull p rest ×
    AreFoldedPieces (32 ∷ []) rest (q ∷ qs)

-- the pieces in a row, each followed by CRLF
abbrev pub with_breaks : List (List ℕ) → List ℕ
with_breaks [] = []
with_breaks (p ∷ ps) = p ++ (13 ∷ (10 ∷ with_breaks ps))
