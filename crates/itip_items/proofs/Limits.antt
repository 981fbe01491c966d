-- How many octets and lines a canonical form has, beside its limits.
use Rattle.std.proofs.Common.{◌≡◌, ap, ℕ, ◌<◌, ◌≤◌, List, length, arith}
use Rattle.std.specs.Prelude.{min}

pub long_octets : (octets : List ℕ) → 262144 < length octets → length octets ≤ 262144 → ⊥
long_octets octets h k = omega (arith, h, k)

pub many_lines : (count n : ℕ) → n ≡ min count 18446744073709551615 → 20000 < n → count ≤ 20000 → ⊥
many_lines count n e h k = omega (arith, e)

pub few_lines : (count n : ℕ) → n ≡ min count 18446744073709551615 → n ≤ 20000 → count ≤ 20000
few_lines count n e h = omega (arith, e)

pub few_octets : (octets canonical : List ℕ) → octets ≡ canonical → length octets ≤ 262144 → length canonical ≤ 262144
few_octets octets canonical same few = let l = ap length same in omega (arith, few, l)
