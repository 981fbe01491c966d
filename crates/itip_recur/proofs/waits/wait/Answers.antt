use Rattle.std.proofs.Common.{arith, FitsSigned, w32, to_z-of_z, IsTrue}
use Rattle.jiff_core.proofs.SignedLemmas.{signed_arith}
use Rattle.itip_recur.specs.SelectedDays.{IsWeekDay}
use Rattle.itip_recur.proofs.WaitDays.{one_day}
use Rattle.itip_recur.proofs.waits.wait.Goals as goal

pub returns-else-is_week_day-clause-wait : goal.returns-else-is_week_day-clause-wait
returns-else-is_week_day-clause-wait c =
    let start : FitsSigned w32 c.args.start.now.number = omega (arith, signed_arith, c.args.start.now.in_years) in
    let day : FitsSigned w32 c.args.day.now.number = omega (arith, signed_arith, c.args.day.now.in_years) in
    let back : IsWeekDay c.in-Weekly.days c.args.start.now.number c.args.day.now.number → IsTrue c.is_week_day.result =
    simp to_z-of_z at c.is_week_day.ensures.1 in
    rw c.in-Weekly.is (one_day (IsWeekDay c.in-Weekly.days c.args.start.now.number) c.args.day.now.number (λ p. let is_true = back p in cc))
