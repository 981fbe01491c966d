-- Days that can be passed over.
use Rattle.std.proofs.Common.{◌≡◌, ℕ, ◌+◌, ◌-◌, ◌*◌, ◌%◌, ◌<◌, ◌≤◌, subst, arith, ℤ, pos, ◌+ℤ◌, ◌≤ℤ◌}
use Rattle.std.proofs.lemmas.Int.{by_lt_z}
use Rattle.jiff_core.proofs.SignedLemmas.{signed_arith}
use Rattle.itip_moment.specs.Years.{IsDayNumber}
use Rattle.itip_recur.specs.Calendar.{weekday_number, day_of_month, month_length}
use Rattle.itip_recur.proofs.Dates.{date_of-IsPlain, pos-days_from_zero}
use Rattle.itip_recur.specs.Waits.{IsNone, IsWait}
use Rattle.jiff_core.specs.declared.civil.weekday.Weekday.{Weekday}
use Rattle.itip_recur.specs.declared.rule.Place.{Place}
use Rattle.itip_recur.specs.declared.rule.Place.TheVariants.{FromLast}
use Rattle.itip_recur.specs.declared.rule.MonthWeekday.TheVariants.{Nth}
use Rattle.itip_recur.specs.SelectedDays.{IsAtPlace, IsInSeven, IsMonthWeekday, IsOnWeekday}
use Rattle.itip_recur.proofs.InMonth.{IsInMonth, in_month, pos-days_from_zero-low}

-- a day for which P doesn't hold
pub one_day : (P : ℤ → Type 0) (day : ℤ) → (P day → ⊥) → IsWait P day (pos 1)
one_day P day not =
    record {
      here = λ e. absurd (omega (arith, signed_arith));
      none = λ x low high is. let same : x ≡ day = omega (arith, signed_arith) in not (subst P same is);
    }

-- the rest of a month for no day of which P holds
pub in_rest : (P : ℤ → Type 0) (day r : ℤ) → IsDayNumber day → pos 1 ≤ℤ r → r ≡ pos (month_length day + 1 - day_of_month day) →
    ((x : ℤ) → IsInMonth day x → day ≤ℤ x → P x → ⊥) → IsWait P day r
in_rest P day r day_in low is none =
    record {
      here = λ e. absurd (omega (arith, signed_arith));
      none = λ x ge lt p. none x (in_month day x day_in ge (omega (arith, signed_arith, is))) ge p;
    }

pub for_day : (day : ℤ) (d wanted : ℕ) → IsDayNumber day → d ≡ day_of_month day → d ≤ wanted → wanted ≤ month_length day →
    IsWait (λ x. day_of_month x ≡ wanted) day (pos (wanted - d))
for_day day d wanted day_in is le high =
    record {
      here = λ e. omega (arith, signed_arith, is, e);
      none = λ x ge lt same. let at = in_month day x day_in ge (omega (arith, signed_arith, is)) in
          omega (arith, signed_arith, at.at, is, same);
    }

-- the rest of a month doesn't have a day of the month that is past
pub past : (day x : ℤ) (wanted : ℕ) → wanted < day_of_month day → IsInMonth day x → day ≤ℤ x → day_of_month x ≡ wanted → ⊥
past day x wanted lt at ge same = omega (arith, signed_arith, at.at)

-- nor one that the month doesn't have
pub too_long : (day x : ℤ) (wanted : ℕ) → month_length day < wanted → IsInMonth day x → day_of_month x ≡ wanted → ⊥
too_long day x wanted lt at same = omega (arith, at.within)

-- P doesn't hold for a day, nor for the days after it that are passed over
pub and_behind : (P : ℤ → Type 0) (day wait : ℤ) → (P day → ⊥) → pos 1 ≤ℤ wait → IsNone P (day +ℤ pos 1) (day +ℤ wait) → IsWait P day wait
and_behind P day wait not low none =
    record {
      here = λ e. absurd (omega (arith, signed_arith));
      none = λ x ge lt p.
          by_lt_z day x (λ after. none x (omega (arith, signed_arith)) lt p)
          (λ le. let same : x ≡ day = omega (arith, signed_arith) in not (subst P same p));
    }

-- no day lies after this one and before the next
pub none_behind : (P : ℤ → Type 0) (day : ℤ) → IsNone P (day +ℤ pos 1) (day +ℤ pos 1)
none_behind P day x low high p = omega (arith, signed_arith)

-- no such weekday lies after this day and those that were passed over, up to the next
pub no_weekday : (w d k : ℕ) (day : ℤ) → w ≤ 6 → k ≤ 30 → d ≡ weekday_number day → IsDayNumber day →
    IsNone (λ x. weekday_number x ≡ w) (day +ℤ pos (1 + k)) (day +ℤ pos k +ℤ pos ((w + 41 - d - k) % 7 + 1))
no_weekday w d k day small few is day_in x low high on =
    let here = pos-days_from_zero day day_in in
    let there = pos-days_from_zero-low x (omega (arith, signed_arith, day_in)) in
    omega (arith, signed_arith, here, there, is, on)

-- none of the days after this one and in its month is in a place's seven, if none has a day of the month in them
pub not_in_seven : (place : Place) (day : ℤ) (before end k : ℕ) → IsDayNumber day → day_of_month day + k ≤ month_length day →
    ((x : ℤ) → month_length x ≡ month_length day → IsInSeven place x → (before < day_of_month x) × (day_of_month x ≤ end)) →
    ((m : ℕ) → day_of_month day < m → m ≤ day_of_month day + k → before < m → m ≤ end → ⊥) →
    IsNone (IsInSeven place) (day +ℤ pos 1) (day +ℤ pos (1 + k))
not_in_seven place day before end k day_in within bounds none x low high is =
    let at = in_month day x day_in (omega (arith, signed_arith)) (omega (arith, signed_arith, within)) in
    let b = bounds x at.long is in
    none (day_of_month x) (omega (arith, signed_arith, at.at)) (omega (arith, signed_arith, at.at)) b.0 b.1

-- nor is a day such a weekday of a place: it lies before the place's seven, or before the next such weekday from there on
pub no_nth : (place : Place) (w : Weekday) (day wait : ℤ) (k : ℕ) → IsNone (IsInSeven place) (day +ℤ pos 1) (day +ℤ pos (1 + k)) →
    IsNone (IsOnWeekday w) (day +ℤ pos (1 + k)) (day +ℤ pos k +ℤ wait) →
    IsNone (IsMonthWeekday (Nth place w)) (day +ℤ pos 1) (day +ℤ (pos k +ℤ wait))
no_nth place w day wait k before behind x low high is =
    by_lt_z x (day +ℤ pos (1 + k)) (λ lt. before x low lt is.1) (λ ge. behind x ge (omega (arith, signed_arith)) is.0)

-- the days of the month that are in the seven of a place from the end
pub in_last_seven : (n : ℕ) (x : ℤ) (days : ℕ) → month_length x ≡ days → IsInSeven (FromLast n) x →
    (days - 7 * n < day_of_month x) × (day_of_month x ≤ days - 7 * (n - 1))
in_last_seven n x days same is =
    let low = (date_of-IsPlain x).day_low in
    (omega (arith, same, is.after, is.within, low), omega (arith, same, is.after, is.within))

-- none of the days after this one, in its month and before the one that is wanted, is at the place
pub no_place : (place : Place) (day : ℤ) (wanted k : ℕ) → IsDayNumber day → day_of_month day + k ≤ month_length day + 1 →
    ((x : ℤ) → month_length x ≡ month_length day → day_of_month x ≤ month_length day → IsAtPlace place x → day_of_month x ≡ wanted) →
    ((m : ℕ) → day_of_month day < m → m < day_of_month day + k → m ≤ month_length day → m ≡ wanted → ⊥) →
    IsNone (IsAtPlace place) (day +ℤ pos 1) (day +ℤ pos k)
no_place place day wanted k day_in within at_place none x low high is =
    let at = in_month day x day_in (omega (arith, signed_arith)) (omega (arith, signed_arith, within)) in
    let short : day_of_month x ≤ month_length day = at.within in
    none (day_of_month x) (omega (arith, signed_arith, at.at)) (omega (arith, signed_arith, at.at)) short (at_place x at.long short is)
