-- The value of digits.
use Rattle.std.proofs.Common.{◌≡◌, ℕ, ◌+◌, ◌-◌, ◌*◌, ◌^◌, ◌<◌, ◌≤◌, Bool, true, false, cond, ltb, List, [], ◌∷◌, length, arith, ◌&&◌, refl}
use Rattle.std.proofs.Common.{ap, ◌∙◌, inl, inr, Some, None}
use Rattle.std.proofs.lemmas.Bool.{lt-ltb, le-ltb}
use Rattle.std.specs.List.{list_all}
use Rattle.itip_script.specs.Orders.{is_digit, digits_value, number_of, IsNoDigit}

ltb_yes : (m n : ℕ) → m < n → ltb m n ≡ true
ltb_yes m n h = lt-ltb m n h

ltb_no : (m n : ℕ) → n ≤ m → ltb m n ≡ false
ltb_no m n h = le-ltb m n h

false_right : (a b : Bool) → b ≡ false → (a && b) ≡ false
false_right true b e = e
false_right false b e = refl

refused_by : (word : List ℕ) → (list_all is_digit word && ltb (digits_value 0 word) (2 ^ 64)) ≡ false → number_of word ≡ None
refused_by word e = elim (ltb 0 (length word)) as
    (λ t. cond (t && (list_all is_digit word && ltb (digits_value 0 word) (2 ^ 64))) (Some (digits_value 0 word)) None ≡ None) [
      | true ↦ ap (λ (t : Bool). cond t (Some (digits_value 0 word)) None) e
      | false ↦ refl
    ]

-- more digits make no number smaller
pub digits_value_grows : (number : ℕ) (bytes : List ℕ) → number ≤ digits_value number bytes
digits_value_grows number [] = omega arith
digits_value_grows number (b ∷ bytes) = omega (arith, digits_value_grows (number * 10 + (b - 48)) bytes)

-- a byte that is no digit or makes the value too large refuses the word
pub number_refused : (word : List ℕ) (number b : ℕ) (rest : List ℕ) → list_all is_digit word ≡ list_all is_digit (b ∷ rest) →
    digits_value 0 word ≡ digits_value number (b ∷ rest) → IsNoDigit number b → number_of word ≡ None
number_refused word number b rest all value (inl none) =
    let digits : list_all is_digit word ≡ false = all ∙ ap (λ (t : Bool). t && list_all is_digit rest) none in
    refused_by word (ap (λ (t : Bool). t && ltb (digits_value 0 word) (2 ^ 64)) digits)
number_refused word number b rest all value (inr large) =
    let long : 2 ^ 64 ≤ digits_value 0 word = omega (arith, value, digits_value_grows (number * 10 + (b - 48)) rest) in
    refused_by word (false_right (list_all is_digit word) (ltb (digits_value 0 word) (2 ^ 64)) (ltb_no (digits_value 0 word) (2 ^ 64) long))

-- digits whose value fits are that number
pub number_read : (word : List ℕ) (number : ℕ) → 0 < length word → list_all is_digit word ≡ true → digits_value 0 word ≡ number →
    number < 2 ^ 64 → number_of word ≡ Some number
number_read word number some all value fits =
    let short : digits_value 0 word < 2 ^ 64 = omega (arith, value) in
    rw (ltb_yes 0 (length word) some, all, ltb_yes (digits_value 0 word) (2 ^ 64) short, value) refl
