use Rattle.std.proofs.Common.{arith, FitsSigned, w32, to_z-of_z}
use Rattle.jiff_core.proofs.SignedLemmas.{signed_arith}
use Rattle.itip_recur.proofs.CalendarDays.{month_high, IsFirst, IsFirst-in_years, IsFirst-before}
use Rattle.itip_recur.proofs.calendar.first_of_month.Goals as goal

pub returns-then-month-gt9999-clause-before : goal.returns-then-month-gt9999-clause-before
returns-then-month-gt9999-clause-before c =
    λ day in_years. (λ _. month_high c.args.month c.if-month-gt9999.true day in_years, λ _. omega (arith, signed_arith, in_years))

first : (c : goal.After-to_unix_epoch_day) → IsFirst c.args.month c.first_date-date.result c.to_unix_epoch_day.result
first c =
    record {
      positive = omega arith;
      in_years = omega arith;
      year_is = c.first_date-date.ensures.year;
      month_is = c.first_date-date.ensures.month;
      day_is = c.first_date-date.ensures.day;
      number = c.to_unix_epoch_day.ensures.value;
    }

pub returns-clause-bounds : goal.returns-clause-bounds
returns-clause-bounds c =
    let fits : FitsSigned w32 c.to_unix_epoch_day.result = omega (arith, signed_arith) in
    let within = IsFirst-in_years _ _ _ (first c) in
    (omega (arith, signed_arith), omega (arith, signed_arith))

pub returns-clause-before : goal.returns-clause-before
returns-clause-before c =
    let fits : FitsSigned w32 c.to_unix_epoch_day.result = omega (arith, signed_arith) in
    rw to_z-of_z (IsFirst-before _ _ _ (first c))
