use Rattle.std.proofs.Common.{arith, FitsSigned, w32, to_z-of_z}
use Rattle.std.proofs.lemmas.Bool.{both_ways}
use Rattle.jiff_core.proofs.SignedLemmas.{signed_arith}
use Rattle.itip_recur.specs.SelectedDays.{IsYearDay}
use Rattle.itip_recur.proofs.MonthShapes.{names_same, names_of_day}
use Rattle.itip_recur.proofs.WaitDays.{one_day, in_rest}
use Rattle.itip_recur.proofs.waits.wait_in_year.Goals as goal

pub returns-then-not-is_in_month-clause-wait : goal.returns-then-not-is_in_month-clause-wait
returns-then-not-is_in_month-clause-wait c =
    let days = c.args.days.now in
    let day = c.args.day.now in
    let start = c.args.start.now in
    let rest : FitsSigned w32 c.rest_of_month.result = omega (arith, signed_arith) in
    rw to_z-of_z (in_rest (IsYearDay days start.number) day.number c.rest_of_month.result day.in_years c.rest_of_month.ensures.low
    c.rest_of_month.ensures.value (λ x at low p. both_ways c.is_in_month.result c.if-not-is_in_month.true
    (c.is_in_month.ensures.1 (names_same days start.number x day.number at.month (names_of_day days start.number x p)))))

pub returns-else-is_year_day-clause-wait : goal.returns-else-is_year_day-clause-wait
returns-else-is_year_day-clause-wait c =
    let day = c.args.day.now in
    let start = c.args.start.now in
    one_day (IsYearDay c.args.days.now start.number) day.number (λ p. both_ways c.is_year_day.result c.if-is_year_day.false
    (c.is_year_day.ensures.1 p))
