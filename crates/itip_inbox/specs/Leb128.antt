-- Numbers as bytes (LEB128): seven bits in each byte, the lowest first, and 128 added to each byte but the last (our own form).
use Rattle.std.specs.Prelude.{◌≡◌, ℕ, ◌+◌, ◌-◌, ◌*◌, ◌^◌, ◌≤◌, nat_lt, List, [], ◌∷◌, ◌++◌, if◌then◌else◌}

-- these numbers, with seven bits more below those of the first
abbrev pub with_low : ℕ → List ℕ → List ℕ
with_low low [] = []
with_low low (n ∷ ns) = (low + 128 * n) ∷ ns

-- the numbers that bytes are, without a last one that doesn't end
abbrev pub numbers : List ℕ → List ℕ
numbers [] = []
numbers (octet ∷ octets) = if nat_lt octet 128 then octet ∷ numbers octets else with_low (octet - 128) (numbers octets)

-- bytes are these numbers and end with the last, whatever follows
abbrev pub Spells : List ℕ → List ℕ → Type 0
Spells octets ns = (more : List ℕ) → numbers (octets ++ more) ≡ ns ++ numbers more

-- there is no number, or the first has more than 64 bits
abbrev pub NoneFits : List ℕ → Type 0
NoneFits [] = Unit {0}
NoneFits (n ∷ ns) = 2 ^ 64 ≤ n
