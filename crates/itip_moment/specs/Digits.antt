-- Decimal digits: two for a number below 100, and four for one below 10,000 (our own form).
use Rattle.std.specs.Prelude.{ℕ, ◌+◌, ◌/◌, ◌%◌, List, [], ◌∷◌, ◌++◌}

-- 48 is '0'
abbrev pub two_digits : ℕ → List ℕ
two_digits n = (48 + n / 10) ∷ (48 + n % 10) ∷ []

abbrev pub four_digits : ℕ → List ℕ
four_digits n = two_digits (n / 100) ++ two_digits (n % 100)

-- YYYYMMDD
abbrev pub date_digits : ℕ → ℕ → ℕ → List ℕ
date_digits year month day = four_digits year ++ two_digits month ++ two_digits day

-- HHMMSS
abbrev pub clock_digits : ℕ → ℕ → ℕ → List ℕ
clock_digits hour minute second = two_digits hour ++ two_digits minute ++ two_digits second
