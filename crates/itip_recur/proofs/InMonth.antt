-- The days of a month follow one another.
use Rattle.std.proofs.Common.{◌≡◌, ℕ, zero, suc, ◌+◌, ◌-◌, ◌*◌, ◌<◌, ◌≤◌, true, false, cond, nat_lt, refl, sym, subst, ◌∙◌, arith, ℤ, pos}
use Rattle.std.proofs.Common.{◌+ℤ◌, ◌<ℤ◌, ◌≤ℤ◌}
use Rattle.std.proofs.lemmas.Bool.{lt-ltb, ltb-false}
use borrow.Author.Tests.{ltb-true}
use Rattle.jiff.specs.Words.{days_in_month}
use Rattle.jiff_core.proofs.SignedLemmas.{signed_arith}
use Rattle.itip_moment.specs.Years.{IsDayNumber}
use Rattle.itip_moment.specs.Written.{YearMonthDay, next_date, nth_date}
use Rattle.itip_recur.specs.Calendar.{days_from_zero, date_of, year_number, month_of_year, day_of_month, month_length}
use Rattle.itip_recur.proofs.Dates.{IsPlain, months, nth_date-IsPlain, pos-unsigned_abs, pos-days_from_zero}

-- `k` days after d, in its month
record IsAfter (d e : YearMonthDay) (k : ℕ) : Type 0 where
  year : e.year ≡ d.year
  month : e.month ≡ d.month
  day : e.day ≡ d.day + k

same_length : (d e : YearMonthDay) → e.year ≡ d.year → e.month ≡ d.month →
    days_in_month (pos e.year) e.month ≡ days_in_month (pos d.year) d.month
same_length d e year month = rw (year, month) refl

next_in_month : (d : YearMonthDay) → d.day < days_in_month (pos d.year) d.month → IsAfter d (next_date d) 1
next_in_month d lt =
    elim (nat_lt d.day (days_in_month (pos d.year) d.month)) as (λ b. nat_lt d.day (days_in_month (pos d.year) d.month) ≡ b →
    IsAfter d (cond b (record d { day = d.day + 1 })
    (cond (nat_lt d.month 12) (record { year = d.year; month = d.month + 1; day = 1 })
    (record { year = d.year + 1; month = 1; day = 1 }))) 1) [
      | true ↦ λ e. record { year = refl; month = refl; day = refl }
      | false ↦ λ e. absurd (let t : nat_lt d.day (days_in_month (pos d.year) d.month) ≡ true =
          lt-ltb d.day (days_in_month (pos d.year) d.month) lt in cc)
    ] refl

stays : (n k m : ℕ) → m ≡ n + k → (nth_date n).day + k ≤ days_in_month (pos (nth_date n).year) (nth_date n).month →
    IsAfter (nth_date n) (nth_date m) k
unfolding nth_date
stays n zero m e le =
    let same : m ≡ n = omega arith in
    subst (λ (z : ℕ). IsAfter (nth_date n) (nth_date z) 0) (sym same) (record { year = refl; month = refl; day = omega arith })
stays n (suc k) zero e le = absurd (omega arith)
stays n (suc k) (suc m) e le =
    let before = stays n k m (omega arith) (omega arith) in
    let long = same_length (nth_date n) (nth_date m) before.year before.month in
    let step = next_in_month (nth_date m) (omega (arith, before.day)) in
    record { year = step.year ∙ before.year; month = step.month ∙ before.month; day = omega (arith, step.day, before.day) }

-- x lies in the month of the day, and is as many days after it as its day of the month
pub record IsInMonth (day x : ℤ) : Type 0 where
  pub year : year_number x ≡ year_number day
  pub month : month_of_year x ≡ month_of_year day
  pub long : month_length x ≡ month_length day
  pub at : pos (day_of_month x) +ℤ day ≡ pos (day_of_month day) +ℤ x
  pub within : day_of_month x ≤ month_length day

pub pos-days_from_zero-low : (x : ℤ) → pos 0 ≤ℤ (x +ℤ pos 719_528) → pos (days_from_zero x) ≡ x +ℤ pos 719_528
unfolding days_from_zero
pos-days_from_zero-low x low = pos-unsigned_abs (x +ℤ pos 719_528) low

pub in_month : (day x : ℤ) → IsDayNumber day → day ≤ℤ x → x <ℤ (day +ℤ pos (month_length day + 1 - day_of_month day)) → IsInMonth day x
in_month day x day_in low high =
    let n = pos-days_from_zero day day_in in
    let m = pos-days_from_zero-low x (omega (arith, signed_arith, day_in)) in
    let after = stays (days_from_zero day) (days_from_zero x - days_from_zero day) (days_from_zero x) (omega (arith, signed_arith, n, m))
    (omega (arith, signed_arith, n, m)) in
    record {
      year = after.year;
      month = after.month;
      long = same_length (date_of day) (date_of x) after.year after.month;
      at = omega (arith, signed_arith, after.day, n, m);
      within = omega (arith, signed_arith, after.day, n, m);
    }

-- e is the first of the month after that of d
pub record IsFirstBehind (d e : YearMonthDay) : Type 0 where
  pub month : months e ≡ months d + 1
  pub day : e.day ≡ 1

next_from_last : (d : YearMonthDay) → IsPlain d → days_in_month (pos d.year) d.month ≤ d.day → IsFirstBehind d (next_date d)
next_from_last d h last =
    elim (nat_lt d.day (days_in_month (pos d.year) d.month)) as (λ b. nat_lt d.day (days_in_month (pos d.year) d.month) ≡ b →
    IsFirstBehind d (cond b (record d { day = d.day + 1 })
    (cond (nat_lt d.month 12) (record { year = d.year; month = d.month + 1; day = 1 })
    (record { year = d.year + 1; month = 1; day = 1 })))) [
      | true ↦ λ e. absurd (let lt = ltb-true d.day (days_in_month (pos d.year) d.month) e in omega arith)
      | false ↦ λ _.
          elim (nat_lt d.month 12) as (λ b. nat_lt d.month 12 ≡ b →
          IsFirstBehind d (cond b (record { year = d.year; month = d.month + 1; day = 1 })
          (record { year = d.year + 1; month = 1; day = 1 }))) [
            | true ↦ λ e. record { month = omega arith; day = refl }
            | false ↦ λ e. let high : 12 ≤ d.month = omega (arith, ltb-false d.month 12 e) in
                record { month = omega (arith, h.month_high); day = refl }
          ] refl
    ] refl

turns : (n k m : ℕ) → m ≡ n + k + 1 → (nth_date n).day + k ≡ days_in_month (pos (nth_date n).year) (nth_date n).month →
    IsFirstBehind (nth_date n) (nth_date m)
unfolding nth_date
turns n k zero e last = absurd (omega arith)
turns n k (suc m) e last =
    let at = stays n k m (omega arith) (omega (arith, last)) in
    let long = same_length (nth_date n) (nth_date m) at.year at.month in
    let step = next_from_last (nth_date m) (nth_date-IsPlain m) (omega (arith, at.day, long, last)) in
    record { month = omega (arith, step.month, at.year, at.month); day = step.day }

-- after the last day of a month comes the first of the next
pub first_of_next : (day x : ℤ) → IsDayNumber day → day_of_month day ≤ month_length day →
    x ≡ day +ℤ pos (month_length day + 1 - day_of_month day) → IsFirstBehind (date_of day) (date_of x)
first_of_next day x day_in le is =
    let n = pos-days_from_zero day day_in in
    let m = pos-days_from_zero-low x (omega (arith, signed_arith, day_in, is)) in
    turns (days_from_zero day) (month_length day - day_of_month day) (days_from_zero x) (omega (arith, signed_arith, n, m, is))
    (omega (arith, le))

-- its year and its month, from months counted over all years
pub parts_behind : (day x : ℤ) (y m year month : ℕ) → IsFirstBehind (date_of day) (date_of x) → y ≡ year_number day →
    m ≡ month_of_year day → 12 * year + month ≡ 12 * y + m + 1 → (1 ≤ month) × (month ≤ 12) → (year ≡ year_number x) ×
    (month ≡ month_of_year x)
parts_behind day x y m year month at year_is month_is counted within =
    let plain = nth_date-IsPlain (days_from_zero x) in
    let count = at.month in
    let low = plain.month_low in
    let high = plain.month_high in
    (omega arith, omega arith)
