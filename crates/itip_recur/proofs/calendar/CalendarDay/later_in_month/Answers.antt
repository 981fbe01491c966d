use Rattle.std.proofs.Common.{◌≡◌, ◌+◌, arith, FitsSigned, w32, to_z, to_z-of_z, pos, ◌+ℤ◌, sym, ◌∙◌}
use Rattle.std.proofs.lemmas.Int.{ints}
use Rattle.jiff_core.proofs.SignedLemmas.{signed_arith}
use Rattle.itip_recur.specs.Calendar.{day_of_month}
use Rattle.itip_recur.proofs.InMonth.{in_month}
use Rattle.itip_recur.proofs.calendar.CalendarDay.later_in_month.Goals as goal

pub invariant_of-result : goal.invariant_of-result
invariant_of-result c =
    let day = c.args.self.now in
    let b = day.bounds in
    let unsigned : to_z w32 c.args.days ≡ pos c.args.days = omega (arith, ints, c.ranges.days.fits) in
    let number : FitsSigned w32 day.number = omega (arith, signed_arith, day.in_years) in
    let sum : FitsSigned w32 (day.number +ℤ pos c.args.days) = omega (arith, signed_arith, c.requires.in_years) in
    let at = in_month day.number (day.number +ℤ pos c.args.days) day.in_years (omega (arith, signed_arith))
    (omega (arith, signed_arith, day.day_is, day.length_is, c.requires.in_month)) in
    let day_at : day.day + c.args.days ≡ day_of_month (day.number +ℤ pos c.args.days) = omega (arith, signed_arith, day.day_is, at.at) in
    record {
      in_years = simp (to_z-of_z, unsigned) c.requires.in_years;
      year_is = simp (to_z-of_z, unsigned) (day.year_is ∙ sym at.year);
      month_is = simp (to_z-of_z, unsigned) (day.month_is ∙ sym at.month);
      day_is = simp (to_z-of_z, unsigned) day_at;
      length_is = simp (to_z-of_z, unsigned) (day.length_is ∙ sym at.long);
      bounds = (b.0, b.1, omega (arith, b.2), c.requires.in_month, b.4);
    }
