-- The first number from another on in a residue class.
use Rattle.std.proofs.Common.{◌≡◌, ℕ, ◌+◌, ◌-◌, ◌*◌, ◌/◌, ◌%◌, ◌<◌, ◌≤◌, inl, inr, arith}
use Rattle.std.proofs.Math.Nat.{mul-le-mul_left}
use Rattle.std.proofs.lemmas.Bool.{cases_lt}
use Rattle.std.proofs.lemmas.Nat.{mod-mul-add}

-- no number lies between where the residue of `from` isn't above the wanted one
pub none_before : (from wanted n d : ℕ) → 0 < d → from % d ≤ wanted → from ≤ n → n < from + (wanted - from % d) → n % d ≡ wanted → ⊥
none_before from wanted n d positive le low high same =
    elim (cases_lt (n / d) (from / d)) [
      | inl below ↦ let product : d * (n / d + 1) ≤ d * (from / d) = mul-le-mul_left d (omega arith) in absurd (omega arith)
      | inr above ↦ let product : d * (from / d) ≤ d * (n / d) = mul-le-mul_left d above in absurd (omega arith)
    ]

-- nor where it is above
pub none_after : (from wanted n d : ℕ) → 0 < d → wanted < from % d → from ≤ n → n < from + (d - from % d) + wanted → n % d ≡ wanted → ⊥
none_after from wanted n d positive gt low high same =
    elim (cases_lt (from / d) (n / d)) [
      | inl above ↦ let product : d * (from / d + 1) ≤ d * (n / d) = mul-le-mul_left d (omega arith) in absurd (omega arith)
      | inr below ↦ let product : d * (n / d) ≤ d * (from / d) = mul-le-mul_left d below in absurd (omega arith)
    ]

-- the number after a multiple has its residue
pub wraps : (from wanted d : ℕ) → wanted < d → (from + (d - from % d) + wanted) % d ≡ wanted
wraps from wanted d lt =
    let next : from + (d - from % d) + wanted ≡ (from / d + 1) * d + wanted = omega arith in
    rw next (mod-mul-add (from / d + 1) d wanted lt)

-- between a number and the next with its residue there is none with it
pub between : (n m d : ℕ) → 0 < d → n < m → m < n + d → m % d ≡ n % d → ⊥
between n m d positive low high same =
    elim (cases_lt (n / d) (m / d)) [
      | inl above ↦ let product : d * (n / d + 1) ≤ d * (m / d) = mul-le-mul_left d (omega arith) in absurd (omega arith)
      | inr below ↦ let product : d * (m / d) ≤ d * (n / d) = mul-le-mul_left d below in absurd (omega arith)
    ]
