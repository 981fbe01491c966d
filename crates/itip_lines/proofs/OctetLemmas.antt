-- How the classes of octets relate to one another.
use Rattle.std.proofs.Common.{◌≡◌, refl, ℕ, ◌≤◌, ◌<◌, true, false, arith}
use Rattle.std.specs.Prelude.{◌==◌}
use Rattle.std.specs.Char.{to_ascii_uppercase}
use Rattle.std.proofs.lemmas.Bool.{and_parts}
use Rattle.std.proofs.lemmas.Bool.Decides.{nat_tests}
use Rattle.itip_lines.specs.Octets.{is_upper_name_octet, is_name_octet, is_value_octet, is_quotable_octet, is_separator, is_plain_octet}

pub plain_high : (b : ℕ) → 128 ≤ b → is_plain_octet b ≡ true
plain_high b h = grind (arith, nat_tests)

pub not_plain_ascii : (b : ℕ) → is_plain_octet b ≡ false → b < 128
not_plain_ascii b h = grind (arith, nat_tests)

pub name_ascii : (b : ℕ) → is_name_octet b ≡ true → b < 128
name_ascii b h = grind (arith, nat_tests)

pub plain_not_quote : (b : ℕ) → is_plain_octet b ≡ true → (b == 34) ≡ false
plain_not_quote b h = grind (arith, nat_tests)

pub separator_not_plain : (b : ℕ) → is_separator b ≡ true → is_plain_octet b ≡ false
separator_not_plain b h = grind (arith, nat_tests)

pub separator_not_quote : (b : ℕ) → is_separator b ≡ true → (b == 34) ≡ false
separator_not_quote b h = grind (arith, nat_tests)

pub plain_quotable : (b : ℕ) → is_plain_octet b ≡ true → is_quotable_octet b ≡ true
plain_quotable b h = (and_parts _ _ h).0

pub quotable_not_quote : (b : ℕ) → is_quotable_octet b ≡ true → (b == 34) ≡ false
quotable_not_quote b h = grind (arith, nat_tests)

pub plain_no_mark : (b : ℕ) → is_plain_octet b ≡ true → ((b == 59) ≡ false) × ((b == 44) ≡ false)
plain_no_mark b h = (grind (arith, nat_tests), grind (arith, nat_tests))

pub name_no_equals : (b : ℕ) → is_upper_name_octet b ≡ true → (b == 61) ≡ false
name_no_equals b h = grind (arith, nat_tests)

pub quotable_value : (b : ℕ) → is_quotable_octet b ≡ true → is_value_octet b ≡ true
quotable_value b h = (and_parts _ _ h).0

pub upper_name : (b : ℕ) → is_name_octet b ≡ true → is_upper_name_octet (to_ascii_uppercase b) ≡ true
upper_name b h = grind (arith, nat_tests)

pub upper_is_name : (b : ℕ) → is_upper_name_octet b ≡ true → is_name_octet b ≡ true
upper_is_name b h = rw h refl

pub upper_same : (b : ℕ) → is_upper_name_octet b ≡ true → to_ascii_uppercase b ≡ b
upper_same b h = grind (arith, nat_tests)

pub name_value : (b : ℕ) → is_name_octet b ≡ true → is_value_octet b ≡ true
name_value b h = grind (arith, nat_tests)

pub value_no_break : (b : ℕ) → is_value_octet b ≡ true → ((b == 10) ≡ false) × ((b == 13) ≡ false)
value_no_break b h = (grind (arith, nat_tests), grind (arith, nat_tests))
