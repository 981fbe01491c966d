use Rattle.std.proofs.Common.{◌≡◌, ℕ, ◌<◌, ◌^◌, ℤ, pos, ◌+ℤ◌, ◌*ℤ◌, arith, FitsSigned, w32, w64, to_z, of_z, to_z-of_z}
use mir.Syntax.{w128}
use Rattle.std.proofs.lemmas.Int.{ints}
use Rattle.jiff_core.proofs.SignedLemmas.{signed_arith}
use Rattle.itip_moment.specs.Shift.{seconds_at, moved_by}
use Rattle.itip_moment.proofs.shift.moved_by.Goals as goal

-- no step of the sum leaves 128 bits
sum : (a : ℤ) (s : ℕ) (d e : ℤ) → FitsSigned w32 a → s < 2 ^ 32 → FitsSigned w64 d → FitsSigned w64 e →
    to_z w128 (of_z w128 (to_z w128 (of_z w128
    (to_z w128 (of_z w128 (to_z w128 (of_z w128 (to_z w32 (of_z w32 a))) +ℤ to_z w128 (of_z w128 (to_z w64 (of_z w64 d))))) *ℤ pos 86_400))
    +ℤ to_z w128 (of_z w128 (to_z w128 s +ℤ to_z w128 (of_z w128 (to_z w64 (of_z w64 e))))))) ≡ moved_by (seconds_at a s) d e
sum a s d e fits_a below fits_d fits_e =
    let wide_a : FitsSigned w128 a = omega (arith, signed_arith) in
    let wide_d : FitsSigned w128 d = omega (arith, signed_arith) in
    let wide_e : FitsSigned w128 e = omega (arith, signed_arith) in
    let unsigned : to_z w128 s ≡ pos s = omega (arith, ints) in
    let days : FitsSigned w128 (a +ℤ d) = omega (arith, signed_arith) in
    let product : FitsSigned w128 ((a +ℤ d) *ℤ pos 86_400) = omega (arith, signed_arith) in
    let seconds : FitsSigned w128 (pos s +ℤ e) = omega (arith, signed_arith) in
    let total : FitsSigned w128 (((a +ℤ d) *ℤ pos 86_400) +ℤ (pos s +ℤ e)) = omega (arith, signed_arith) in
    let same : ((a +ℤ d) *ℤ pos 86_400) +ℤ (pos s +ℤ e) ≡ moved_by (seconds_at a s) d e = omega (arith, signed_arith) in
    simp (to_z-of_z, unsigned) same

pub returns : goal.returns
returns c =
    let fits : FitsSigned w32 c.args.at.now.day = omega (arith, signed_arith) in
    let below : c.args.at.now.second < 2 ^ 32 = omega arith in
    sum c.args.at.now.day c.args.at.now.second c.args.days c.args.seconds fits below c.ranges.days c.ranges.seconds
