-- Months of one length that begin on one weekday have equally many days of a pattern, where both are the pattern's own.
use Rattle.std.proofs.Common.{◌≡◌, inl, inr, ℕ, ◌+◌, ◌-◌, ◌*◌, ◌%◌, ◌<◌, ◌≤◌, sym, subst, ap, ◌∙◌, arith, ℤ, pos, ◌+ℤ◌, ◌-ℤ◌, ◌<ℤ◌}
use Rattle.std.proofs.Common.{◌≤ℤ◌, List, length, replicate, slice_index, slice_set}
use Rattle.std.specs.List.{Any}
use Rattle.std.proofs.lemmas.Bool.{cases_eq}
use Rattle.std.proofs.lemmas.List.{get_or-replicate, get_or-set_same, get_or-set_other}
use Rattle.jiff_core.specs.declared.civil.weekday.Weekday.{Weekday}
use Rattle.jiff_core.proofs.CalendarLemmas.{days_in_month_bounds}
use Rattle.jiff_core.proofs.SignedLemmas.{signed_arith}
use Rattle.itip_moment.specs.Years.{IsDayNumber}
use Rattle.itip_recur.specs.declared.rule.Rule.{Rule}
use Rattle.itip_recur.specs.declared.rule.Frequency.{Frequency}
use Rattle.itip_recur.specs.declared.rule.Frequency.TheVariants.{Daily, Weekly, Monthly, Yearly}
use Rattle.itip_recur.specs.declared.rule.MonthDays.{MonthDays}
use Rattle.itip_recur.specs.declared.rule.MonthDays.TheVariants as month
use Rattle.itip_recur.specs.declared.rule.YearDays.{YearDays}
use Rattle.itip_recur.specs.declared.rule.YearDays.TheVariants as year
use Rattle.itip_recur.specs.declared.rule.Place.{Place}
use Rattle.itip_recur.specs.declared.rule.Place.TheVariants.{FromFirst, FromLast}
use Rattle.itip_recur.specs.declared.rule.MonthWeekday.{MonthWeekday}
use Rattle.itip_recur.specs.declared.rule.MonthWeekday.TheVariants.{Every, Nth}
use Rattle.itip_recur.specs.Calendar.{weekday_number, year_number, month_of_year, month_number, day_of_month, month_length}
use Rattle.itip_recur.specs.SelectedDays.{unit_number, counted, ordinal, IsAtPlace, IsMonthWeekday, IsMonthDay, IsYearDay}
use Rattle.itip_recur.specs.SelectedDays.{IsSelected, InPattern}
use Rattle.itip_recur.specs.Counting.{Walked}
use Rattle.itip_recur.specs.MonthCounts.{IsByMonths, NamesMonth, OwnsMonth, IsFirstOfOwn, month_shape, unknown, AreMet}
use Rattle.itip_recur.proofs.Dates.{pos-days_from_zero}
use Rattle.itip_recur.proofs.InMonth.{IsInMonth, in_month, pos-days_from_zero-low}
use Rattle.itip_recur.proofs.NamedDays.{any_like}
use Rattle.itip_recur.proofs.MovedWalks.{ComesAgain, walk_moved}

-- a day of a month is selected where a day at the same place of a month of the same length and on the same weekday is
module _ (start x y : ℤ) (day : day_of_month x ≡ day_of_month y) (long : month_length x ≡ month_length y)
    (weekday : weekday_number x ≡ weekday_number y) where
  same_place : (p : Place) → counted p x ≡ counted p y
  same_place (FromFirst n) = day
  same_place (FromLast n) = omega (arith, day, long)

  at_place : (p : Place) → IsAtPlace p x → IsAtPlace p y
  at_place p h = sym (same_place p) ∙ h

  month_weekday : (m : MonthWeekday) → IsMonthWeekday m x → IsMonthWeekday m y
  month_weekday (Every w) h = sym weekday ∙ h
  month_weekday (Nth p w) h = (
    sym weekday ∙ h.0,
    record {
      after = subst (λ (n : ℕ). 7 * (ordinal p - 1) < n) (same_place p) h.1.after;
      within = subst (λ (n : ℕ). n ≤ 7 * ordinal p) (same_place p) h.1.within;
    },
  )

  month_day : (days : MonthDays) → IsMonthDay days start x → IsMonthDay days start y
  month_day month.OfStart h = sym day ∙ h
  month_day (month.Listed days) h = any_like (λ place. IsAtPlace place x) (λ place. IsAtPlace place y) at_place days h
  month_day (month.Weekdays days) h = any_like (λ w. IsMonthWeekday w x) (λ w. IsMonthWeekday w y) month_weekday days h

  year_day : (days : YearDays) → NamesMonth days start y → IsYearDay days start x → IsYearDay days start y
  year_day year.OfStart named h = (named, sym day ∙ h.1)
  year_day (year.Listed months days) named h =
      (named, any_like (λ place. IsAtPlace place x) (λ place. IsAtPlace place y) at_place days h.1)

pub names_same : (days : YearDays) (start x y : ℤ) → month_of_year x ≡ month_of_year y → NamesMonth days start x → NamesMonth days start y
names_same year.OfStart start x y same h = sym same ∙ h
names_same (year.Listed months days) start x y same h = subst (λ (n : ℕ). Any (λ month. n ≡ month) months) same h

pub names_of_day : (days : YearDays) (start x : ℤ) → IsYearDay days start x → NamesMonth days start x
names_of_day year.OfStart start x h = h.0
names_of_day (year.Listed months days) start x h = h.0

same_number : (x y : ℤ) → year_number x ≡ year_number y → month_of_year x ≡ month_of_year y → month_number x ≡ month_number y
same_number x y year month = omega (arith, year, month)

-- a month with a day of the pattern is one of its own
owns_of : (f : Frequency) (w : Weekday) (i : ℕ) (start first x : ℤ) → IsByMonths f → IsInMonth first x →
    unit_number f w x % i ≡ unit_number f w start % i → IsSelected f start x → OwnsMonth f i start first
owns_of Daily w i start first x by at congruent selected = absurd by
owns_of (Weekly days) w i start first x by at congruent selected = absurd by
owns_of (Monthly days) w i start first x by at congruent selected =
    ap (λ n. n % i) (same_number first x (sym at.year) (sym at.month)) ∙ congruent
owns_of (Yearly days) w i start first x by at congruent selected = (
  ap (λ n. n % i) (sym at.year) ∙ congruent,
  names_same days start x first at.month (names_of_day days start x selected),
)

-- a day at the same place of an own month is in the pattern too
record IsIn (f : Frequency) (w : Weekday) (i : ℕ) (start y : ℤ) : Type 0 where
  congruent : unit_number f w y % i ≡ unit_number f w start % i
  selected : IsSelected f start y

in_own : (f : Frequency) (w : Weekday) (i : ℕ) (start first x y : ℤ) → OwnsMonth f i start first → IsInMonth first y →
    day_of_month x ≡ day_of_month y → month_length x ≡ month_length y → weekday_number x ≡ weekday_number y → IsSelected f start x →
    IsIn f w i start y
in_own Daily w i start first x y own at day long weekday selected = absurd own
in_own (Weekly days) w i start first x y own at day long weekday selected = absurd own
in_own (Monthly days) w i start first x y own at day long weekday selected =
    record {
      congruent = ap (λ n. n % i) (same_number y first at.year at.month) ∙ own;
      selected = month_day start x y day long weekday days selected;
    }
in_own (Yearly days) w i start first x y own at day long weekday selected =
    record {
      congruent = ap (λ n. n % i) at.year ∙ own.0;
      selected = year_day start x y day long weekday days (names_same days start first y (sym at.month) own.1) selected;
    }

-- the days of a month from its first on
within : (first x : ℤ) → IsDayNumber first → day_of_month first ≡ 1 → first ≤ℤ x → x <ℤ (first +ℤ pos (month_length first)) →
    IsInMonth first x
within first x first_in one low high = in_month first x first_in low (omega (arith, signed_arith, one, high))

-- the day as many days after another first of a month
module _ (first other x : ℤ) (first_in : IsDayNumber first) (other_in : IsDayNumber other) (one : day_of_month first ≡ 1)
    (one_too : day_of_month other ≡ 1) (long : month_length first ≡ month_length other)
    (weekday : weekday_number first ≡ weekday_number other) (low : first ≤ℤ x)
    (high : x <ℤ (first +ℤ pos (month_length first))) where
  low_moved : other ≤ℤ (x +ℤ (other -ℤ first))
  low_moved = omega (arith, signed_arith, low)

  high_moved : (x +ℤ (other -ℤ first)) <ℤ (other +ℤ pos (month_length other))
  high_moved = omega (arith, signed_arith, high, long)

  here : IsInMonth first x
  here = within first x first_in one low high

  there : IsInMonth other (x +ℤ (other -ℤ first))
  there = within other (x +ℤ (other -ℤ first)) other_in one_too low_moved high_moved

  same_day : day_of_month x ≡ day_of_month (x +ℤ (other -ℤ first))
  same_day = omega (arith, signed_arith, here.at, there.at, one, one_too)

  same_length : month_length x ≡ month_length (x +ℤ (other -ℤ first))
  same_length = here.long ∙ (long ∙ sym there.long)

  same_weekday : weekday_number x ≡ weekday_number (x +ℤ (other -ℤ first))
  same_weekday =
      let a = pos-days_from_zero first first_in in
      let b = pos-days_from_zero other other_in in
      let c = pos-days_from_zero-low x (omega (arith, signed_arith, first_in, low)) in
      let d = pos-days_from_zero-low (x +ℤ (other -ℤ first)) (omega (arith, signed_arith, other_in, low_moved)) in
      omega (arith, signed_arith, a, b, c, d, weekday)

  pub moves : (rule : Rule) (start : ℤ) → OwnsMonth rule.frequency rule.interval start other → InPattern rule start x →
      InPattern rule start (x +ℤ (other -ℤ first))
  moves rule start own p =
      let is = in_own rule.frequency rule.week_start rule.interval start other x (x +ℤ (other -ℤ first)) own there same_day same_length
      same_weekday p.selected in
      record { congruent = is.congruent; selected = is.selected }

module _ (rule : Rule) (start first other : ℤ) (here : IsFirstOfOwn rule start first) (there : IsFirstOfOwn rule start other)
    (long : month_length first ≡ month_length other) (weekday : weekday_number first ≡ weekday_number other) where
  again : ComesAgain rule start first (first +ℤ pos (month_length first)) (other -ℤ first)
  again = record {
    later = λ x low high p. moves first other x here.in_years there.in_years here.is_first there.is_first long weekday low high rule start
        there.own p;
    earlier = λ x low high p.
        let y = x +ℤ (other -ℤ first) in
        let back : y +ℤ (first -ℤ other) ≡ x = omega (arith, signed_arith) in
        subst (InPattern rule start) back
        (moves other first y there.in_years here.in_years there.is_first here.is_first (sym long) (sym weekday)
        (omega (arith, signed_arith, low)) (omega (arith, signed_arith, high, long)) rule start here.own p);
  }

  pub month_moved : (count : ℕ) → Walked rule start first count (first +ℤ pos (month_length first)) →
      Walked rule start other count (other +ℤ pos (month_length other))
  month_moved count walked =
      let begin : first +ℤ (other -ℤ first) ≡ other = omega (arith, signed_arith) in
      let end : (first +ℤ pos (month_length first)) +ℤ (other -ℤ first) ≡ other +ℤ pos (month_length other) =
      omega (arith, signed_arith, long) in
      subst (λ (z : ℤ). Walked rule start z count (other +ℤ pos (month_length other))) begin
      (subst (λ (z : ℤ). Walked rule start (first +ℤ (other -ℤ first)) count z) end
      (walk_moved rule start first (first +ℤ pos (month_length first)) (other -ℤ first) again count first
      (omega (arith, signed_arith)) walked))

-- months of one shape have one length and begin on one weekday
shape_parts : (a b c d : ℕ) → b < 7 → d < 7 → 7 * a + b ≡ 7 * c + d → (a ≡ c) × (b ≡ d)
shape_parts a b c d small fits e = (omega arith, omega arith)

shape_small : (first : ℤ) → month_shape first < 224
shape_small first = let long = (days_in_month_bounds (pos (year_number first)) (month_of_year first)).0 in omega (arith, long)

-- none was met
pub none_met : (rule : Rule) (start : ℤ) → AreMet rule start (replicate 224 unknown)
none_met rule start first own known =
    absurd (known (get_or-replicate 224 (month_shape first) unknown 0 (shape_small first)))

-- one more was met
pub one_met : (rule : Rule) (start first : ℤ) (met : List ℕ) (seen : ℕ) → IsFirstOfOwn rule start first →
    month_shape first < length met → AreMet rule start met →
    Walked rule start first seen (first +ℤ pos (month_length first)) → AreMet rule start (slice_set met (month_shape first) seen)
one_met rule start first met seen own inside are walked other own_too known =
    elim (cases_eq (month_shape other) (month_shape first)) [
      | inl same ↦
          let parts = shape_parts (month_length first) (weekday_number first) (month_length other) (weekday_number other) (omega arith)
          (omega arith) (sym same) in
          let value : slice_index (slice_set met (month_shape first) seen) (month_shape other) ≡ seen =
          ap (λ n. slice_index (slice_set met (month_shape first) seen) n) same ∙ get_or-set_same met (month_shape first) seen 0 inside in
          subst (λ (n : ℕ). Walked rule start other n (other +ℤ pos (month_length other))) (sym value)
          (month_moved rule start first other own own_too parts.0 parts.1 seen walked)
      | inr differ ↦
          let value : slice_index (slice_set met (month_shape first) seen) (month_shape other) ≡ slice_index met (month_shape other) =
          get_or-set_other met (month_shape first) (month_shape other) seen 0 differ in
          subst (λ (n : ℕ). Walked rule start other n (other +ℤ pos (month_length other))) (sym value)
          (are other own_too (λ e. known (value ∙ e)))
    ]

-- a month that isn't the pattern's own has none of its days
pub none_own : (rule : Rule) (start first : ℤ) → IsDayNumber first → day_of_month first ≡ 1 → IsByMonths rule.frequency →
    (OwnsMonth rule.frequency rule.interval start first → ⊥) → Walked rule start first 0 (first +ℤ pos (month_length first))
none_own rule start first first_in one by not_own = (
  omega (arith, signed_arith),
  λ x low high p. not_own (owns_of rule.frequency rule.week_start rule.interval start first x by
      (within first x first_in one low high) p.congruent p.selected),
)
