use Rattle.std.proofs.Common.{◌≡◌, arith, FitsSigned, w16, w32, to_z, of_z, to_z-of_z, ℤ, pos, unsigned_abs, subst, sym, ◌≤◌}
use Rattle.jiff.specs.Words.{days_in_month}
use Rattle.jiff_core.proofs.SignedLemmas.{signed_arith}
use Rattle.jiff_core.proofs.CalendarLemmas.{days_in_month_bounds}
use Rattle.itip_moment.proofs.Calendar.{same_date, year_high, IsDateOf}
use Rattle.itip_moment.proofs.day.Day.year_month_day.Goals as goal

pub overflow_cast-result : goal.overflow_cast-result
overflow_cast-result c =
    let within = c.args.self.in_years in
    let fits : FitsSigned w32 c.args.self.number = omega (arith, signed_arith) in
    let is : IsDateOf c.args.self.number c.date_of-date.result =
    same_date _ _ c.args.self.in_years (simp to_z-of_z at c.date_of-date.ensures) in
    let high = year_high c.args.self.number c.args.self.in_years in
    grind (arith, signed_arith, is.year, high)

pub returns : goal.returns
returns c =
    let within = c.args.self.in_years in
    let fits : FitsSigned w32 c.args.self.number = omega (arith, signed_arith) in
    let is : IsDateOf c.args.self.number c.date_of-date.result =
    same_date _ _ c.args.self.in_years (simp to_z-of_z at c.date_of-date.ensures) in
    let high = year_high c.args.self.number c.args.self.in_years in
    let back : pos (unsigned_abs (to_z w16 (of_z w16 c.date_of-date.result.year))) ≡ c.date_of-date.result.year =
    omega (arith, signed_arith, is.year) in
    let day = c.date_of-date.result.day_in in
    let long = days_in_month_bounds c.date_of-date.result.year c.date_of-date.result.month in
    record {
      year = omega (arith, signed_arith, is.year);
      month = is.month;
      day = is.day_of_month;
      bounds = (
        omega (arith, signed_arith, is.year),
        c.date_of-date.result.month_in,
        (day.0, subst (λ (year : ℤ). c.date_of-date.result.day ≤ days_in_month year c.date_of-date.result.month) (sym back) day.1),
      );
      small = omega (arith, day.1, long);
    }
