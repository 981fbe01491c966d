use Rattle.std.proofs.Common.{arith, FitsSigned, w32, to_z-of_z}
use Rattle.jiff_core.proofs.SignedLemmas.{signed_arith}
use Rattle.itip_recur.proofs.Dates.{year_of_month}
use Rattle.itip_recur.proofs.calendar.first_of_year.Goals as goal

pub returns-clause-before : goal.returns-clause-before
returns-clause-before c =
    let fits : FitsSigned w32 c.first_of_month.result = omega (arith, signed_arith) in
    rw to_z-of_z (λ day in_years.
    let by_month = c.first_of_month.ensures.before day in_years in
    let by_year = year_of_month day c.args.year in
    (λ lt. by_year.0 (by_month.0 lt), λ lt. by_month.1 (by_year.1 lt)))
