use Rattle.std.proofs.Common.{◌+ℤ◌, ℤ, pos, arith, FitsSigned, w32, to_z-of_z}
use Rattle.jiff_core.proofs.SignedLemmas.{signed_arith}
use Rattle.itip_recur.specs.SelectedDays.{IsMonthDay}
use Rattle.itip_recur.specs.Waits.{IsNone}
use Rattle.itip_recur.proofs.WaitDays.{and_behind}
use Rattle.itip_recur.proofs.waits.wait_in_month.Goals as goal

pub returns-else-is_month_day : goal.returns-else-is_month_day
returns-else-is_month_day c =
    let day = c.args.day.now in
    let start = c.args.start.now in
    let at : FitsSigned w32 day.number = omega (arith, signed_arith, day.in_years) in
    let wait : FitsSigned w32 c.wait_behind.result = omega (arith, signed_arith) in
    let none : (start : ℤ) → IsNone (IsMonthDay c.args.days.now start) (day.number +ℤ pos 1) (day.number +ℤ c.wait_behind.result) =
    c.wait_behind.ensures.none in
    simp to_z-of_z (record {
      low = omega (arith, signed_arith, c.wait_behind.ensures.low);
      high = c.wait_behind.ensures.high;
      wait = and_behind (IsMonthDay c.args.days.now start.number) day.number c.wait_behind.result (λ p. let is_true =
          c.is_month_day.ensures.1 p in cc) c.wait_behind.ensures.low (none start.number);
    })
