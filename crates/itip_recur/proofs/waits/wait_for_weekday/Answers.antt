use Rattle.std.proofs.Common.{◌≡◌, ◌+◌, ◌-◌, ◌%◌, arith, FitsSigned, w32, to_z, to_z-of_z, pos}
use Rattle.std.proofs.lemmas.Int.{ints}
use Rattle.jiff.specs.Words.{monday_zero}
use Rattle.itip_recur.specs.Calendar.{weekday_number}
use Rattle.itip_recur.proofs.WaitDays.{no_weekday}
use Rattle.itip_recur.proofs.PeriodWalks.{monday_zero-small}
use Rattle.itip_recur.proofs.waits.wait_for_weekday.Goals as goal

pub returns-clause-none : goal.returns-clause-none
returns-clause-none c =
    let day : FitsSigned w32 c.args.day = c.ranges.day in
    let here : c.weekday_number.result ≡ weekday_number c.args.day = simp to_z-of_z at c.weekday_number.ensures in
    let index : c.index.result ≡ monday_zero c.args.weekday = c.index.ensures.value in
    let d = c.weekday_number.result in
    let k = c.args.passed in
    let unsigned : to_z w32 ((c.index.result + 41 - d - k) % 7 + 1) ≡ pos ((c.index.result + 41 - d - k) % 7 + 1) = omega (arith, ints) in
    rw (unsigned, index) (no_weekday (monday_zero c.args.weekday) d k c.args.day (monday_zero-small c.args.weekday)
    c.requires.passed_in here c.requires.day_in)
