-- The day of a year with the start's month and day of the month.
use Rattle.std.proofs.Common.{◌≡◌, ℕ, sym, ◌∙◌, arith, ℤ, ◌<ℤ◌, ◌≤ℤ◌}
use Rattle.jiff_core.proofs.SignedLemmas.{signed_arith}
use Rattle.itip_moment.specs.Years.{IsDayNumber}
use Rattle.itip_recur.specs.declared.rule.YearDays.TheVariants.{OfStart}
use Rattle.itip_recur.specs.Calendar.{year_number, month_of_year, day_of_month, IsDayOrEnd, HasDate, IsDayOfDate}
use Rattle.itip_recur.specs.SelectedDays.{IsYearDay}
use Rattle.itip_recur.specs.Waits.{IsFirst}

module _ (year month day : ℕ) (start from stop : ℤ) (from_in : IsDayNumber from) (stop_in : IsDayOrEnd stop) (in_year : (x : ℤ) →
    from ≤ℤ x → x <ℤ stop → year_number x ≡ year) (month_is : month ≡ month_of_year start) (day_is : day ≡ day_of_month start) where
  -- a selected day of the year has the date
  has_date : (x : ℤ) → from ≤ℤ x → x <ℤ stop → IsYearDay OfStart start x → HasDate year month day x
  has_date x low high p = record { year_is = in_year x low high; month_is = p.0 ∙ sym month_is; day_is = p.1 ∙ sym day_is }

  in_years : (x : ℤ) → from ≤ℤ x → x <ℤ stop → IsDayNumber x
  in_years x low high = (omega (arith, signed_arith, from_in.0), omega (arith, signed_arith, stop_in.1))

  pub inside : (z : ℤ) → IsDayOfDate year month day z → from ≤ℤ z → z <ℤ stop → IsFirst (IsYearDay OfStart start) from stop z
  inside z is low high =
      record {
        not_before = low;
        before_stop = high;
        is = (is.has_date.month_is ∙ month_is, is.has_date.day_is ∙ day_is);
        first = λ x ge lt p. let same =
            is.one x (in_years x ge (omega (arith, signed_arith))) (has_date x ge (omega (arith, signed_arith)) p) in
            omega (arith, signed_arith, same);
      }
