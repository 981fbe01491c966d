-- A text with its control characters shown as bytes: C0, DEL and C1, as `\x0a` or `\xc2\x85` (our own form).
use Rattle.std.specs.Prelude.{ℕ, ◌/◌, ◌%◌, Bool, true, false, ◌&&◌, ◌||◌, not, ◌==◌, nat_le, nat_lt, List, [], ◌∷◌, ◌++◌, if◌then◌else◌}
use Rattle.std.specs.Char.{digit_char}

-- an octet as `\x` and two hexadecimal digits, in lower case
abbrev pub escaped : ℕ → List ℕ
escaped octet = 92 ∷ 120 ∷ digit_char (octet / 16) ∷ digit_char (octet % 16) ∷ []

-- A C1 character is the octet c2 and then one of these.
abbrev pub is_second : ℕ → Bool
is_second octet = nat_le 128 octet && nat_lt octet 160

abbrev pub begins_second : List ℕ → Bool
begins_second [] = false
begins_second (octet ∷ octets) = is_second octet

-- an octet, with this one before it and these after it, is of a C1 character
abbrev pub is_of_c1 : ℕ → ℕ → List ℕ → Bool
is_of_c1 before octet after = (octet == 194 && begins_second after) || (before == 194 && is_second octet)

-- an octet is of a control character
abbrev pub is_of_control : ℕ → ℕ → List ℕ → Bool
is_of_control before octet after = nat_lt octet 32 || octet == 127 || is_of_c1 before octet after

abbrev pub begins_lf : List ℕ → Bool
begins_lf [] = false
begins_lf (octet ∷ octets) = octet == 10

-- an octet is of a line end: LF, or CR before LF
abbrev pub is_of_line_end : ℕ → List ℕ → Bool
is_of_line_end octet after = octet == 10 || (octet == 13 && begins_lf after)

-- An octet of a control character is shown by its number. With the flag, line ends are left as they are.
abbrev pub is_hidden : Bool → ℕ → ℕ → List ℕ → Bool
is_hidden keeps before octet after = not (keeps && is_of_line_end octet after) && is_of_control before octet after

abbrev pub shown_octet : Bool → ℕ → ℕ → List ℕ → List ℕ
shown_octet keeps before octet after = if is_hidden keeps before octet after then escaped octet else octet ∷ []

-- what is shown of octets after another one
abbrev pub shown_after : Bool → ℕ → List ℕ → List ℕ
shown_after keeps before [] = []
shown_after keeps before (octet ∷ after) = shown_octet keeps before octet after ++ shown_after keeps octet after

-- a text with each control character as its bytes, and everything else as it is
abbrev pub visible : List ℕ → List ℕ
visible text = shown_after false 0 text

-- the same, but line ends are left as they are
abbrev pub visible_lines : List ℕ → List ℕ
visible_lines octets = shown_after true 0 octets
