use Rattle.std.proofs.Common.{◌≡◌, ◌≤ℤ◌, arith, FitsSigned, w32, to_z, to_z-of_z, pos, ◌+ℤ◌, ◌-ℤ◌}
use Rattle.jiff_core.proofs.SignedLemmas.{signed_arith}
use Rattle.itip_recur.specs.SelectedDays.{IsSelected}
use Rattle.itip_recur.specs.Waits.{IsNone}
use Rattle.itip_recur.proofs.UnitWalks.{then, up_to, found_at}
use Rattle.itip_recur.proofs.walk.first_date.Goals as goal

pub returns-then-days-le0 : goal.returns-then-days-le0
returns-then-days-le0 c =
    let P = IsSelected c.args.frequency.now c.args.start.now.number in
    let day = c.loop-left.day in
    let from : FitsSigned w32 c.args.from = c.ranges.from in
    let stop : FitsSigned w32 c.args.stop = c.ranges.stop in
    let at : FitsSigned w32 day.number = omega (arith, signed_arith, day.in_years) in
    let days : FitsSigned w32 c.wait-days.result = omega (arith, signed_arith) in
    let inv = c.loop-left.invariant in
    let left : to_z w32 c.loop-left.left-bits ≡ c.args.stop -ℤ day.number = simp to_z-of_z at inv.left in
    let low : c.args.from ≤ℤ day.number = simp to_z-of_z at inv.not_before in
    let none : IsNone P c.args.from day.number = simp to_z-of_z at inv.none in
    let at_once : c.wait-days.result ≡ pos 0 = omega (arith, signed_arith, c.if-days-le0.true, c.wait-days.ensures.low) in
    rw to_z-of_z (found_at P c.args.from c.args.stop day.number c.wait-days.result low
    (omega (arith, signed_arith, left, c.loop-left-test.true)) none c.wait-days.ensures.wait at_once)

pub loop-left-preserved : goal.loop-left-preserved
loop-left-preserved c =
    let P = IsSelected c.args.frequency.now c.args.start.now.number in
    let day = c.loop-left.day in
    let from : FitsSigned w32 c.args.from = c.ranges.from in
    let stop : FitsSigned w32 c.args.stop = c.ranges.stop in
    let days : FitsSigned w32 c.wait-days.result = omega (arith, signed_arith) in
    let inv = c.loop-left.invariant in
    let left : to_z w32 c.loop-left.left-bits ≡ c.args.stop -ℤ day.number = simp to_z-of_z at inv.left in
    let low : c.args.from ≤ℤ day.number = simp to_z-of_z at inv.not_before in
    let none : IsNone P c.args.from day.number = simp to_z-of_z at inv.none in
    let later : c.later-day.result.number ≡ day.number +ℤ c.wait-days.result = simp to_z-of_z at c.later-day.ensures in
    let less : FitsSigned w32 (to_z w32 c.loop-left.left-bits -ℤ c.wait-days.result) = omega (arith, signed_arith) in
    simp to_z-of_z (record {
      left = omega (arith, signed_arith, left, later);
      not_before = omega (arith, signed_arith, low, later, c.wait-days.ensures.low);
      none = rw later (then P c.args.from day.number (day.number +ℤ c.wait-days.result) none c.wait-days.ensures.wait.none);
    })

pub returns-after-loop-left : goal.returns-after-loop-left
returns-after-loop-left c =
    let P = IsSelected c.args.frequency.now c.args.start.now.number in
    let day = c.loop-left.day in
    let from : FitsSigned w32 c.args.from = c.ranges.from in
    let stop : FitsSigned w32 c.args.stop = c.ranges.stop in
    let inv = c.loop-left.invariant in
    let left : to_z w32 c.loop-left.left-bits ≡ c.args.stop -ℤ day.number = simp to_z-of_z at inv.left in
    let none : IsNone P c.args.from day.number = simp to_z-of_z at inv.none in
    up_to P c.args.from day.number c.args.stop none (omega (arith, signed_arith, left, c.loop-left-test.false))

pub returns-then-days-left : goal.returns-then-days-left
returns-then-days-left c =
    let P = IsSelected c.args.frequency.now c.args.start.now.number in
    let day = c.loop-left.day in
    let from : FitsSigned w32 c.args.from = c.ranges.from in
    let stop : FitsSigned w32 c.args.stop = c.ranges.stop in
    let days : FitsSigned w32 c.wait-days.result = omega (arith, signed_arith) in
    let inv = c.loop-left.invariant in
    let left : to_z w32 c.loop-left.left-bits ≡ c.args.stop -ℤ day.number = simp to_z-of_z at inv.left in
    let none : IsNone P c.args.from day.number = simp to_z-of_z at inv.none in
    up_to P c.args.from (day.number +ℤ c.wait-days.result) c.args.stop
    (then P c.args.from day.number (day.number +ℤ c.wait-days.result) none c.wait-days.ensures.wait.none)
    (omega (arith, signed_arith, left, c.if-days-left.true))
