use Rattle.std.proofs.Common.{arith, FitsSigned, w32, to_z-of_z}
use Rattle.jiff_core.proofs.SignedLemmas.{signed_arith}
use Rattle.itip_recur.proofs.walk.first_from.Goals as goal

pub first_week_day-requires-clause-set : goal.first_week_day-requires-clause-set
first_week_day-requires-clause-set c = rw c.in-Weekly.is at c.args.walk.now.sets_are.0

pub returns-in-Weekly : goal.returns-in-Weekly
returns-in-Weekly c =
    let start : FitsSigned w32 c.args.walk.now.start.number = omega (arith, signed_arith, c.args.walk.now.start.in_years) in
    let from : FitsSigned w32 c.args.from = c.ranges.from in
    let stop : FitsSigned w32 c.args.stop = c.ranges.stop in
    rw c.in-Weekly.is (simp to_z-of_z at c.first_week_day.ensures)
