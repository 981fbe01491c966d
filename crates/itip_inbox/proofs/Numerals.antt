-- The digits of a number are a number of JSON (RFC 8259 6).
use Rattle.std.proofs.Common.{◌≡◌, ◌<◌, ◌+◌, ◌^◌, ℕ, zero, suc, cond, List, [], ◌∷◌}
use Rattle.std.proofs.Common.{length, map, drop, get_or, Some, option_and_then, decimal, refl, ap, ◌∙◌, arith}
use Rattle.std.specs.Char.{is_ascii_digit}
use Rattle.std.specs.Int.Digits.{AllBelowBase, digits_of}
use Rattle.std.specs.List.{prefix_len}
use Rattle.std.proofs.lemmas.Bool.{ne_eqb, le-leb, and_from}
use Rattle.std.proofs.lemmas.Fmt.{decimal_digit, decimal-digits_of}
use Rattle.std.proofs.lemmas.Int.Digits.{all_below_base_digits_of, first_digits_of}
use Rattle.std.proofs.lemmas.List.{drop_all}
use Rattle.json.specs.Print.{IsNumber}
use Rattle.json.specs.Word.{after_whole, after_fraction, after_exponent, after_number}
use Rattle.itip_inbox.specs.Json.{numeral}

-- what `{}` writes
pub decimal_numeral : (n : ℕ) → n < 2 ^ 64 → decimal n ≡ numeral n
unfolding numeral
decimal_numeral zero small = decimal_digit 0 (omega arith)
decimal_numeral (suc n) small = decimal-digits_of (suc n) (omega arith) small

abbrev shown : List ℕ → List ℕ
shown ds = map (λ (d : ℕ). 48 + d) ds

all_digits : (ds : List ℕ) → AllBelowBase 10 ds → prefix_len is_ascii_digit (shown ds) ≡ length (shown ds)
all_digits [] below = refl
all_digits (d ∷ ds) below =
    let small : d < 10 = below.0 in
    let rest = all_digits ds below.1 in
    ap (λ b. cond b (1 + prefix_len is_ascii_digit (shown ds)) 0)
    (and_from _ _ (le-leb 48 (48 + d) (omega arith)) (le-leb (48 + d) 57 (omega arith))) ∙ omega arith

number_of_digits : (ds : List ℕ) → AllBelowBase 10 ds → 0 < get_or ds 0 0 → IsNumber (shown ds)
unfolding after_number
number_of_digits [] below first = absurd (omega arith)
number_of_digits (d ∷ ds) below first =
    let some : 0 < d = first in
    let whole : after_whole (shown (d ∷ ds)) ≡ Some [] =
    rw (ne_eqb (48 + d) 48 (λ e. omega arith), all_digits (d ∷ ds) below, ne_eqb (suc (length (shown ds))) 0 (λ e. omega arith))
    (ap Some (drop_all (length (shown ds)) (shown ds) (omega arith))) in
    ap (λ o. option_and_then after_exponent (option_and_then after_fraction o))
    (ap (λ b. after_whole (cond b (drop 1 (shown (d ∷ ds))) (shown (d ∷ ds)))) (ne_eqb (48 + d) 45 (λ e. omega arith)) ∙ whole)

pub IsNumber-numeral : (n : ℕ) → IsNumber (numeral n)
unfolding numeral after_number
IsNumber-numeral zero = refl
IsNumber-numeral (suc n) =
    number_of_digits (digits_of 10 (suc n)) (all_below_base_digits_of 10 (suc n) (omega arith))
    (first_digits_of 10 (suc n) (omega arith) (omega arith))
