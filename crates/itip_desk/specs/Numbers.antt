-- Numbers that stand for texts in an index (our own form). Equal texts have the same number; other texts may have it too, and are
-- then told apart by what is compared next.
use Rattle.std.specs.Prelude.{ℕ, ◌+◌, ◌*◌, ◌%◌, List, [], ◌∷◌}

-- a number after one more byte
abbrev pub number_with : ℕ → ℕ → ℕ
number_with number octet = (number * 16777619 + octet) % 4294967291

-- a number after the bytes of a text
abbrev pub with_text : ℕ → List ℕ → ℕ
with_text number [] = number
with_text number (octet ∷ octets) = with_text (number_with number octet) octets

abbrev pub text_number : List ℕ → ℕ
text_number text = with_text 0 text

-- The number of a UID. It is neither 0 nor the greatest number of 32 bits.
abbrev pub uid_number : List ℕ → ℕ
uid_number uid = text_number uid + 1
