-- The first octets of a text, as one number (our own form).
use Rattle.std.specs.Prelude.{◌≡◌, ◌+◌, ◌*◌, ◌<◌, ℕ, zero, suc, List, [], ◌∷◌}
use Rattle.std.specs.Prelude.{slice_index}

-- The number that n and this many more octets spell, the most significant first. Past the end of the text an octet is 0.
abbrev pub head_from : ℕ → ℕ → List ℕ → ℕ
head_from n zero _ = n
head_from n (suc left) [] = head_from (n * 256) left []
head_from n (suc left) (octet ∷ text) = head_from (n * 256 + octet) left text

-- The number that the first 16 octets spell.
abbrev pub head_of : List ℕ → ℕ
head_of text = head_from 0 16 text

-- Each place holds an octet.
abbrev pub AreOctets : List ℕ → Type 0
AreOctets text = (place : ℕ) → slice_index text place < 256

-- The number is that of the first octets of the text, in which each place holds an octet.
pub record IsHead (head : ℕ) (text : List ℕ) : Type 0 where
  pub number : head ≡ head_of text
  pub octets : AreOctets text
