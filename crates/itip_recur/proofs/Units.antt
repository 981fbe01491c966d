-- The numbers of units don't fall from day to day.
use Rattle.std.proofs.Common.{◌≡◌, ◌+◌, ◌^◌, ◌<◌, ◌≤◌, inl, inr, ap, arith, ℤ, pos, ◌+ℤ◌, ◌≤ℤ◌}
use Rattle.std.proofs.lemmas.Int.{by_lt_z}
use Rattle.jiff_core.specs.declared.civil.weekday.Weekday.{Weekday}
use Rattle.jiff_core.proofs.SignedLemmas.{signed_arith}
use Rattle.itip_moment.specs.Years.{IsDayNumber}
use Rattle.itip_recur.specs.declared.rule.Frequency.{Frequency}
use Rattle.itip_recur.specs.declared.rule.Frequency.TheVariants.{Daily, Weekly, Monthly, Yearly}
use Rattle.itip_recur.specs.Calendar.{days_from_zero, month_number}
use Rattle.itip_recur.specs.SelectedDays.{unit_number}
use Rattle.itip_recur.proofs.Dates.{date_of-IsPlain, pos-days_from_zero, later_date, month_near, year_near}
use Rattle.itip_recur.proofs.CalendarDays.{year_high}

month_number-rises : (a b : ℤ) → IsDayNumber a → IsDayNumber b → a ≤ℤ b → month_number a ≤ month_number b
month_number-rises a b a_in b_in le =
    by_lt_z a b
    (λ lt. elim (later_date a b a_in b_in lt) [ inl later ↦ omega arith | inr same ↦ omega arith ])
    (λ ge. let same : a ≡ b = omega (arith, signed_arith) in omega (arith, ap month_number same))

pub unit_number-rises : (f : Frequency) (w : Weekday) (a b : ℤ) → IsDayNumber a → IsDayNumber b → a ≤ℤ b →
    unit_number f w a ≤ unit_number f w b
unit_number-rises Daily w a b a_in b_in le = omega (arith, signed_arith, pos-days_from_zero a a_in, pos-days_from_zero b b_in)
unit_number-rises (Weekly d) w a b a_in b_in le =
    let days : days_from_zero a ≤ days_from_zero b = omega (arith, signed_arith, pos-days_from_zero a a_in, pos-days_from_zero b b_in) in
    omega arith
unit_number-rises (Monthly d) w a b a_in b_in le = month_number-rises a b a_in b_in le
unit_number-rises (Yearly d) w a b a_in b_in le =
    let months = month_number-rises a b a_in b_in le in
    let low = date_of-IsPlain a in
    let high = date_of-IsPlain b in
    omega arith

-- no unit is left out
pub unit_number-near : (f : Frequency) (w : Weekday) (x y : ℤ) → IsDayNumber x → IsDayNumber y → y ≡ x +ℤ pos 1 →
    unit_number f w y ≤ unit_number f w x + 1
unit_number-near Daily w x y x_in y_in next = omega (arith, signed_arith, pos-days_from_zero x x_in, pos-days_from_zero y y_in)
unit_number-near (Weekly d) w x y x_in y_in next =
    let days : days_from_zero y ≡ days_from_zero x + 1 =
    omega (arith, signed_arith, pos-days_from_zero x x_in, pos-days_from_zero y y_in) in
    omega arith
unit_number-near (Monthly d) w x y x_in y_in next = month_near x y x_in y_in next
unit_number-near (Yearly d) w x y x_in y_in next = year_near x y x_in y_in next

pub unit_number-small : (f : Frequency) (w : Weekday) (x : ℤ) → IsDayNumber x → unit_number f w x < 2 ^ 22
unit_number-small Daily w x x_in = omega (arith, signed_arith, pos-days_from_zero x x_in)
unit_number-small (Weekly d) w x x_in =
    let days : days_from_zero x < 3_652_425 = omega (arith, signed_arith, pos-days_from_zero x x_in) in
    omega arith
unit_number-small (Monthly d) w x x_in = omega (arith, year_high x x_in, (date_of-IsPlain x).month_high)
unit_number-small (Yearly d) w x x_in = omega (arith, year_high x x_in)
