-- A date moves by whole days as its midnight does.
use Rattle.std.proofs.Common.{◌≡◌, ℤ, pos, ◌+ℤ◌, arith, Bool, true, false, IsTrue, refl}
use Rattle.std.specs.Bool.{OnTrue}
use Rattle.jiff_core.proofs.SignedLemmas.{signed_arith}
use Rattle.itip_moment.specs.Years.{IsDayNumber}
use Rattle.itip_moment.specs.Shift.{seconds_at, moved_by, IsInYears}

pub day_in_years : (day days seconds : ℤ) → seconds ≡ pos 0 → IsDayNumber (day +ℤ days) →
    IsInYears (moved_by (seconds_at day 0) days seconds)
day_in_years day days seconds none h = (omega (arith, signed_arith), omega (arith, signed_arith))

pub years_of_day : (day days seconds : ℤ) → seconds ≡ pos 0 → IsInYears (moved_by (seconds_at day 0) days seconds) →
    IsDayNumber (day +ℤ days)
years_of_day day days seconds none h = (omega (arith, signed_arith), omega (arith, signed_arith))

pub day_moved : (day days seconds new : ℤ) → seconds ≡ pos 0 → new ≡ day +ℤ days →
    seconds_at new 0 ≡ moved_by (seconds_at day 0) days seconds
day_moved day days seconds new none e = omega (arith, signed_arith)

pub OnTrue-weaker : {P Q : Type 0} (b : Bool) → (IsTrue b → P → Q) → OnTrue b P → OnTrue b Q
OnTrue-weaker true f h = f refl h
OnTrue-weaker false f h = h
