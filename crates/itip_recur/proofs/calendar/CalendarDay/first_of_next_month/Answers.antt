use Rattle.std.proofs.Common.{◌≡◌, ◌+◌, ◌-◌, arith, FitsSigned, w32, to_z, to_z-of_z, pos, ◌+ℤ◌, refl, sym, ◌∙◌}
use Rattle.std.proofs.lemmas.Int.{ints}
use Rattle.jiff_core.proofs.SignedLemmas.{signed_arith}
use Rattle.itip_moment.specs.Years.{IsDayNumber}
use Rattle.itip_recur.specs.Calendar.{month_length}
use Rattle.itip_recur.proofs.CalendarDays.{year_high}
use Rattle.itip_recur.proofs.InMonth.{first_of_next, parts_behind}
use Rattle.itip_recur.proofs.calendar.CalendarDay.first_of_next_month.Goals as goal

pub days_in_month-requires-clause-year_in : goal.days_in_month-requires-clause-year_in
days_in_month-requires-clause-year_in c =
    let day = c.args.self.now in
    let unsigned : to_z w32 (day.days_in_month + 1 - day.day) ≡ pos (day.days_in_month + 1 - day.day) = omega (arith, ints, day.bounds) in
    let number : FitsSigned w32 day.number = omega (arith, signed_arith, day.in_years) in
    let x = day.number +ℤ pos (day.days_in_month + 1 - day.day) in
    let x_in : IsDayNumber x = c.requires.in_years in
    let at = first_of_next day.number x day.in_years (omega (arith, day.day_is, day.length_is, day.bounds))
    (omega (arith, signed_arith, day.day_is, day.length_is)) in
    let parts = parts_behind day.number x day.year day.month c.month_behind-year.result.0 c.month_behind-year.result.1 at day.year_is
    day.month_is c.month_behind-year.ensures.number c.month_behind-year.ensures.month in
    omega (arith, parts.0, year_high x x_in)

pub invariant_of-result : goal.invariant_of-result
invariant_of-result c =
    let day = c.args.self.now in
    let unsigned : to_z w32 (day.days_in_month + 1 - day.day) ≡ pos (day.days_in_month + 1 - day.day) = omega (arith, ints, day.bounds) in
    let number : FitsSigned w32 day.number = omega (arith, signed_arith, day.in_years) in
    let x = day.number +ℤ pos (day.days_in_month + 1 - day.day) in
    let x_in : IsDayNumber x = c.requires.in_years in
    let at = first_of_next day.number x day.in_years (omega (arith, day.day_is, day.length_is, day.bounds))
    (omega (arith, signed_arith, day.day_is, day.length_is)) in
    let parts = parts_behind day.number x day.year day.month c.month_behind-year.result.0 c.month_behind-year.result.1 at day.year_is
    day.month_is c.month_behind-year.ensures.number c.month_behind-year.ensures.month in
    let sum : FitsSigned w32 x = omega (arith, signed_arith, x_in) in
    let long : c.days_in_month.result ≡ month_length x = c.days_in_month.ensures.value ∙ rw (parts.0, parts.1) refl in
    let within = c.month_behind-year.ensures.month in
    record {
      in_years = simp (to_z-of_z, unsigned) x_in;
      year_is = simp (to_z-of_z, unsigned) parts.0;
      month_is = simp (to_z-of_z, unsigned) parts.1;
      day_is = simp (to_z-of_z, unsigned) (sym at.day);
      length_is = simp (to_z-of_z, unsigned) long;
      bounds = (
        omega (arith, parts.0, year_high x x_in),
        within.1,
        omega arith,
        omega (arith, c.days_in_month.ensures.low),
        c.days_in_month.ensures.high,
      );
    }
