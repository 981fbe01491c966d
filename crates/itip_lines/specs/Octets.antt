-- The octets that a part of a content line may have (RFC 5545 3.1).
use Rattle.std.specs.Prelude.{ℕ, Bool, not, ◌&&◌, ◌||◌, ◌==◌, nat_le}
use Rattle.std.specs.Char.{is_ascii_uppercase, is_ascii_lowercase, is_ascii_digit}

-- A to Z, 0 to 9 and "-": a name in upper case
abbrev pub is_upper_name_octet : ℕ → Bool
is_upper_name_octet b = is_ascii_uppercase b || is_ascii_digit b || b == 45

-- the same and a to z: a name as it may appear in a text
abbrev pub is_name_octet : ℕ → Bool
is_name_octet b = is_upper_name_octet b || is_ascii_lowercase b

-- every control character except HTAB
abbrev pub is_control_octet : ℕ → Bool
is_control_octet b = nat_le b 8 || (nat_le 10 b && nat_le b 31) || b == 127

-- what a value may have
abbrev pub is_value_octet : ℕ → Bool
is_value_octet b = not (is_control_octet b)

-- what a parameter value may have between quotes: the same except the quote
abbrev pub is_quotable_octet : ℕ → Bool
is_quotable_octet b = is_value_octet b && not (b == 34)

-- ";", ":" and ",", for which a parameter value needs quotes
abbrev pub is_separator : ℕ → Bool
is_separator b = b == 59 || b == 58 || b == 44

-- what a parameter value may have without quotes
abbrev pub is_plain_octet : ℕ → Bool
is_plain_octet b = is_quotable_octet b && not (is_separator b)
