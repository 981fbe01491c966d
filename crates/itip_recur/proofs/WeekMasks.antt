-- A week's days as seven bits, and the wait for the first of them.
use Rattle.std.proofs.Common.{◌≡◌, ◌↔◌, inl, inr, ℕ, ◌+◌, ◌-◌, ◌*◌, ◌/◌, ◌%◌, ◌^◌, ◌<◌, ◌≤◌, IsTrue, refl, sym, subst, ap, ◌∙◌, arith}
use Rattle.std.proofs.Common.{ℤ, pos, ◌+ℤ◌, ◌<ℤ◌, ◌≤ℤ◌}
use Rattle.std.specs.Int.{bit_at, trailing_zeros, w16}
use Rattle.std.specs.Int.Count.{trailing_of_zero}
use Rattle.std.proofs.lemmas.Bool.{cases_lt, cases_eq, eqb-true, eq-eqb}
use Rattle.std.proofs.lemmas.Nat.{shr-shr, and_mask, one_shl, pow_below}
use Rattle.std.proofs.lemmas.Nat.Bits.{bit_at_and, bit_at_ones, bit_at-lt, bit_at-zero}
use Rattle.std.proofs.lemmas.Nat.Bits.{bit_at-pow_same, bit_at-pow_other, bit_at-trailing_zeros}
use Rattle.jiff_core.proofs.SignedLemmas.{signed_arith}
use Rattle.itip_moment.specs.Years.{IsDayNumber}
use Rattle.itip_recur.specs.Calendar.{days_from_zero, weekday_number}
use Rattle.itip_recur.specs.Sets.{has_number}
use Rattle.itip_recur.specs.Waits.{IsNone, IsFirst}
use Rattle.itip_recur.proofs.Dates.{pos-days_from_zero}
use Rattle.itip_recur.proofs.InMonth.{pos-days_from_zero-low}

pub low_bits : (n i : ℕ) → i < 7 → bit_at (n % 128) i ≡ bit_at n i
low_bits n i small =
    ap (λ m. bit_at m i) (sym (and_mask n 7)) ∙ (bit_at_and n 127 i ∙ omega (arith, bit_at_ones 7 i small, bit_at-lt n i))

-- a week twice in a row
twice_low : (w j : ℕ) → w < 128 → j < 7 → bit_at (129 * w) j ≡ bit_at w j
twice_low w j fits small =
    let low : (129 * w) % 128 ≡ w = omega arith in
    sym (low_bits (129 * w) j small) ∙ ap (λ m. bit_at m j) low

twice_high : (w j : ℕ) → w < 128 → bit_at (129 * w) (7 + j) ≡ bit_at w j
twice_high w j fits =
    let high : 129 * w / 2 ^ 7 ≡ w = omega arith in
    ap (λ x. x % 2) (sym (shr-shr (129 * w) 7 j)) ∙ ap (λ m. bit_at m j) high

ahead_in : (w s : ℕ) → w < 128 → s < 14 → bit_at (129 * w) s ≡ bit_at w (s % 7)
ahead_in w s fits small =
    elim (cases_lt s 7) [
      | inl lt ↦ let at : s % 7 ≡ s = omega arith in twice_low w s fits lt ∙ ap (bit_at w) (sym at)
      | inr ge ↦
          let over : s ≡ 7 + (s - 7) = omega arith in
          let at : s - 7 ≡ s % 7 = omega arith in
          ap (bit_at (129 * w)) over ∙ (twice_high w (s - 7) fits ∙ ap (bit_at w) at)
    ]

pub ahead : (w d k : ℕ) → w < 128 → d < 7 → k < 7 → bit_at (129 * w / 2 ^ d) k ≡ bit_at w ((d + k) % 7)
ahead w d k fits d_in k_in = ap (λ x. x % 2) (shr-shr (129 * w) d k) ∙ ahead_in w (d + k) fits (omega arith)

-- the week of one day
pub one_day : (k n : ℕ) → k < 7 → IsTrue (has_number (1 * 2 ^ k % 256) n) ↔ (n ≡ k)
one_day k n small =
    let is : 1 * 2 ^ k % 256 ≡ 2 ^ k = one_shl k 8 (omega arith) in
    let same_bit : bit_at (1 * 2 ^ k % 256) n ≡ bit_at (2 ^ k) n = ap (λ m. bit_at m n) is in (
      λ h. elim (cases_eq n k) [
        | inl same ↦ same
        | inr other ↦ absurd (omega (arith, same_bit, eqb-true (bit_at (1 * 2 ^ k % 256) n) 1 h, bit_at-pow_other k n other))
      ],
      λ same. eq-eqb (bit_at (1 * 2 ^ k % 256) n) 1 (same_bit ∙ (ap (bit_at (2 ^ k)) same ∙ bit_at-pow_same k)),
    )

pub one_day-bound : (k : ℕ) → k < 7 → 1 * 2 ^ k % 256 < 128
one_day-bound k small = omega (arith, one_shl k 8 (omega arith), pow_below k 7 small)

-- the zeros before the lowest bit
pub record AreZeros (n t : ℕ) : Type 0 where
  pub bound : t ≤ 16
  pub found : t < 7 → bit_at n t ≡ 1
  pub none : (i : ℕ) → i < t → bit_at n i ≡ 0

pub by_zeros : (n : ℕ) → n < 2 ^ 16 → AreZeros n (trailing_zeros w16 n)
by_zeros n small =
    elim (cases_lt 0 n) [
      | inl some ↦ let h = bit_at-trailing_zeros w16 n some small in
          record { bound = omega (arith, h.0); found = λ lt. h.1; none = h.2 }
      | inr le ↦
          let is : n ≡ 0 = omega arith in
          let all : trailing_zeros w16 n ≡ 16 = ap (trailing_zeros w16) is ∙ trailing_of_zero 16 in
          record {
            bound = omega (arith, all);
            found = λ lt. absurd (omega (arith, all, lt));
            none = λ i lt. ap (λ m. bit_at m i) is ∙ bit_at-zero i;
          }
    ]

-- the weekday `k` days later
later_weekday : (from x : ℤ) (k : ℕ) → IsDayNumber from → x ≡ from +ℤ pos k → weekday_number x ≡ (weekday_number from + k) % 7
later_weekday from x k from_in is =
    let here = pos-days_from_zero from from_in in
    let there = pos-days_from_zero-low x (omega (arith, signed_arith, from_in, is)) in
    let later : days_from_zero x ≡ days_from_zero from + k = omega (arith, signed_arith, here, there, is) in
    omega (arith, later)

module _ (P : ℤ → Type 0) (w d t : ℕ) (from : ℤ) (from_in : IsDayNumber from) (is : d ≡ weekday_number from)
    (days : (x : ℤ) → IsTrue (has_number w (weekday_number x)) ↔ P x)
    (none : (k : ℕ) → k < 7 → k < t → IsTrue (has_number w ((d + k) % 7)) → ⊥) where
  pub none_in_week : (stop : ℤ) → (t < 7 → stop ≤ℤ (from +ℤ pos t)) → IsNone P from stop
  none_in_week stop within = λ x low high p.
      let here = pos-days_from_zero from from_in in
      let there = pos-days_from_zero-low x (omega (arith, signed_arith, from_in, low)) in
      let k = days_from_zero x - days_from_zero from in
      let at : x ≡ from +ℤ pos k = omega (arith, signed_arith, here, there, low) in
      let on : weekday_number x ≡ (d + k % 7) % 7 = omega (arith, later_weekday from x k from_in at, is) in
      let before : k % 7 < t = elim (cases_lt t 7) [
        | inl lt ↦ omega (arith, signed_arith, within lt, at, high)
        | inr ge ↦ omega (arith, ge)
      ] in
      none (k % 7) (omega arith) before (subst (λ (n : ℕ). IsTrue (has_number w n)) on ((days x).1 p))

  pub first_in_week : (stop : ℤ) → (from +ℤ pos t) <ℤ stop → IsTrue (has_number w ((d + t) % 7)) → IsFirst P from stop (from +ℤ pos t)
  first_in_week stop before found =
      let on : (d + t) % 7 ≡ weekday_number (from +ℤ pos t) =
      omega (arith, later_weekday from (from +ℤ pos t) t from_in refl, is) in
      record {
        not_before = omega (arith, signed_arith);
        before_stop = before;
        is = (days (from +ℤ pos t)).0 (subst (λ (n : ℕ). IsTrue (has_number w n)) on found);
        first = none_in_week (from +ℤ pos t) (λ lt. omega (arith, signed_arith));
      }
