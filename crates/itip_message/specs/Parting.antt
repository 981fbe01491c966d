-- Bytes in two parts that are cut into messages separately (our own form).
use Rattle.std.specs.Prelude.{◌≡◌, ℕ, false, List, [], ◌∷◌, ◌++◌}
use Rattle.itip_message.specs.Scanned.{begins_blank, lines_of, messages_of}

-- The bytes are these two parts, and the messages of both are those of the bytes, whatever bytes come after them.
pub record StaysParted (bytes front back : List ℕ) : Type 0 where
  pub whole : bytes ≡ front ++ back
  pub messages : (more : List ℕ) → messages_of (bytes ++ more) ≡ messages_of front ++ messages_of (back ++ more)

-- LF is the last byte of a line, and no blank follows, which would make it a fold.
pub record ClosesLine (line after : List ℕ) : Type 0 where
  pub before : List ℕ
  pub feed : line ≡ before ++ 10 ∷ []
  pub plain : begins_blank after ≡ false

-- The rest of some bytes begins a line, and so does whatever takes its place, unless that begins with a blank.
pub record IsAtLine (bytes rest : List ℕ) : Type 0 where
  pub front : List ℕ
  pub whole : bytes ≡ front ++ rest
  pub apart : (more : List ℕ) → begins_blank more ≡ false → lines_of (front ++ more) ≡ lines_of front ++ lines_of more
  pub plain : begins_blank rest ≡ false
