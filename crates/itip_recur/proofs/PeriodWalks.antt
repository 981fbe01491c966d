-- Periods of a pattern: what was counted in one is counted in each.
use Rattle.std.proofs.Common.{◌≡◌, ℕ, zero, suc, ◌+◌, ◌-◌, ◌*◌, ◌%◌, ◌<◌, ◌≤◌, sym, subst, ap, ◌∙◌, arith, ℤ, pos, neg_ℤ, ◌+ℤ◌, ◌-ℤ◌, ◌<ℤ◌}
use Rattle.std.proofs.Common.{◌≤ℤ◌}
use Rattle.std.specs.List.{Any}
use Rattle.std.proofs.Math.Nat.{add-mod_right}
use Rattle.jiff.specs.Words.{monday_zero}
use Rattle.jiff_core.specs.declared.civil.weekday.Weekday.{Weekday}
use Rattle.jiff_core.specs.declared.civil.weekday.Weekday.TheVariants.{Monday, Tuesday, Wednesday, Thursday, Friday, Saturday, Sunday}
use Rattle.jiff_core.proofs.SignedLemmas.{signed_arith}
use Rattle.itip_moment.specs.Years.{IsDayNumber}
use Rattle.itip_moment.specs.declared.day.Day.{Day}
use Rattle.itip_recur.specs.declared.rule.Rule.{Rule}
use Rattle.itip_recur.specs.declared.rule.Frequency.{Frequency}
use Rattle.itip_recur.specs.declared.rule.Frequency.TheVariants.{Daily, Weekly}
use Rattle.itip_recur.specs.declared.rule.WeekDays.{WeekDays}
use Rattle.itip_recur.specs.declared.rule.WeekDays.TheVariants as week
use Rattle.itip_recur.specs.Calendar.{days_from_zero, weekday_number, week_number}
use Rattle.itip_recur.specs.SelectedDays.{unit_number, InPattern, IsSelected, IsWeekDay}
use Rattle.itip_recur.specs.Walk.{IsNoDay, IsNextDay}
use Rattle.itip_recur.specs.Counting.{Counted, Walked, IsPeriod, IsPassed}
use Rattle.itip_recur.proofs.InMonth.{pos-days_from_zero-low}
use Rattle.itip_recur.proofs.Counted.{Counted-start, Counted-more, Counted-passed}

-- the pattern of a daily and of a weekly rule

later : (day : ℤ) (n : ℕ) → neg_ℤ (pos 719_528) ≤ℤ day → days_from_zero (day +ℤ pos n) ≡ days_from_zero day + n
later day n low = omega (
  arith,
  signed_arith,
  pos-days_from_zero-low day (omega (arith, signed_arith)),
  pos-days_from_zero-low (day +ℤ pos n) (omega (arith, signed_arith)),
)

pub monday_zero-small : (w : Weekday) → monday_zero w ≤ 6
monday_zero-small Monday = omega arith
monday_zero-small Tuesday = omega arith
monday_zero-small Wednesday = omega arith
monday_zero-small Thursday = omega arith
monday_zero-small Friday = omega arith
monday_zero-small Saturday = omega arith
monday_zero-small Sunday = omega arith

week_later : (first : Weekday) (day : ℤ) (n : ℕ) → neg_ℤ (pos 719_528) ≤ℤ day →
    week_number first (day +ℤ pos (7 * n)) ≡ week_number first day + n
week_later first day n low = let days = later day (7 * n) low in omega (arith, monday_zero-small first)

same_weekday : (day : ℤ) (n : ℕ) → neg_ℤ (pos 719_528) ≤ℤ day → weekday_number (day +ℤ pos (7 * n)) ≡ weekday_number day
same_weekday day n low = let days = later day (7 * n) low in omega arith

is_week_day : (days : WeekDays) (start a b : ℤ) → weekday_number a ≡ weekday_number b → IsWeekDay days start a → IsWeekDay days start b
is_week_day week.OfStart start a b same h = sym same ∙ h
is_week_day (week.Listed days) start a b same h = subst (λ (n : ℕ). Any (λ weekday. n ≡ monday_zero weekday) days) same h

congruent : (f : Frequency) (first : Weekday) (i : ℕ) (a b : ℤ) → unit_number f first b ≡ unit_number f first a + i →
    unit_number f first b % i ≡ unit_number f first a % i
congruent f first i a b next = ap (λ n. n % i) next ∙ add-mod_right (unit_number f first a) i

pub daily_period : (rule : Rule) → rule.frequency ≡ Daily → IsPeriod rule (pos rule.interval)
daily_period rule is start day low =
    let next : unit_number rule.frequency rule.week_start (day +ℤ pos rule.interval) ≡ unit_number rule.frequency rule.week_start day +
    rule.interval = rw is (later day rule.interval low) in
    let same = congruent rule.frequency rule.week_start rule.interval day (day +ℤ pos rule.interval) next in (
      λ h. record { congruent = same ∙ h.congruent; selected = rw is tt },
      λ h. record { congruent = sym same ∙ h.congruent; selected = rw is tt },
    )

pub weekly_period : (rule : Rule) (days : WeekDays) → rule.frequency ≡ Weekly days → IsPeriod rule (pos (7 * rule.interval))
weekly_period rule days is start day low =
    let next : unit_number rule.frequency rule.week_start (day +ℤ pos (7 * rule.interval)) ≡ unit_number rule.frequency rule.week_start
    day + rule.interval = rw is (week_later rule.week_start day rule.interval low) in
    let same = congruent rule.frequency rule.week_start rule.interval day (day +ℤ pos (7 * rule.interval)) next in
    let weekday = same_weekday day rule.interval low in (
      λ h. record {
        congruent = same ∙ h.congruent;
        selected =
            subst (λ (f : Frequency). IsSelected f start (day +ℤ pos (7 * rule.interval))) (sym is)
            (is_week_day days start day (day +ℤ pos (7 * rule.interval)) (sym weekday)
            (subst (λ (f : Frequency). IsSelected f start day) is h.selected));
      },
      λ h. record {
        congruent = sym same ∙ h.congruent;
        selected =
            subst (λ (f : Frequency). IsSelected f start day) (sym is)
            (is_week_day days start (day +ℤ pos (7 * rule.interval)) day weekday
            (subst (λ (f : Frequency). IsSelected f start (day +ℤ pos (7 * rule.interval))) is h.selected));
      },
    )

-- one walk, and the walk a period later

module _ (rule : Rule) (start period : ℤ) (is : IsPeriod rule period) (positive : pos 0 <ℤ period) where
  none_later : (a b : ℤ) → neg_ℤ (pos 719_528) ≤ℤ a → IsNoDay rule start a b → IsNoDay rule start (a +ℤ period) (b +ℤ period)
  none_later a b low none = λ x ge lt p.
      let back : (x -ℤ period) +ℤ period ≡ x = omega (arith, signed_arith) in
      none (x -ℤ period) (omega (arith, signed_arith)) (omega (arith, signed_arith))
      ((is start (x -ℤ period) (omega (arith, signed_arith))).1 (subst (InPattern rule start) (sym back) p))

  next_later : (a b found : ℤ) → neg_ℤ (pos 719_528) ≤ℤ a → IsNextDay rule start a b found →
      IsNextDay rule start (a +ℤ period) (b +ℤ period) (found +ℤ period)
  next_later a b found low next =
      let ge = next.not_before in
      let lt = next.before_end in
      record {
        not_before = omega (arith, signed_arith);
        before_end = omega (arith, signed_arith);
        in_pattern = (is start found (omega (arith, signed_arith))).0 next.in_pattern;
        first = none_later a found low next.first;
      }

  pub walk_later : (count : ℕ) (a b : ℤ) → neg_ℤ (pos 719_528) ≤ℤ a → Walked rule start a count b →
      Walked rule start (a +ℤ period) count (b +ℤ period)
  walk_later zero a b low (le, none) = (omega (arith, signed_arith), none_later a b low none)
  walk_later (suc count) a b low (found, next, rest) =
      let ge = next.not_before in
      let after : (found +ℤ pos 1) +ℤ period ≡ (found +ℤ period) +ℤ pos 1 = omega (arith, signed_arith) in (
        found +ℤ period,
        next_later a b found low next,
        subst (λ (z : ℤ). Walked rule start z count (b +ℤ period)) after
            (walk_later count (found +ℤ pos 1) b (omega (arith, signed_arith)) rest),
      )

pub Counted-walked : (rule : Rule) (start : ℤ) (count seen k : ℕ) (a b : ℤ) → neg_ℤ (pos 719_528) ≤ℤ a → b ≤ℤ pos 2_932_897 →
    seen + k ≤ count → Counted rule start count seen a → Walked rule start a k b → Counted rule start count (seen + k) b
Counted-walked rule start count seen zero a b low high room c (le, none) =
    let same : seen + 0 ≡ seen = omega arith in
    subst (λ (n : ℕ). Counted rule start count n b) (sym same) (Counted-passed rule start count seen a b c le none)
Counted-walked rule start count seen (suc k) a b low high room c (found, next, rest) =
    let ge = next.not_before in
    let lt = next.before_end in
    let day : Day = record { number = found; in_years = (omega (arith, signed_arith), omega (arith, signed_arith)) } in
    let same : seen + 1 + k ≡ seen + suc k = omega arith in
    subst (λ (n : ℕ). Counted rule start count n b) same
    (Counted-walked rule start count (seen + 1) k (found +ℤ pos 1) b (omega (arith, signed_arith)) high (omega arith)
    (Counted-more rule start count seen a b day c next (omega arith)) rest)

-- some number of periods from the day after the start on
module _ (rule : Rule) (start : ℤ) (count k period : ℕ) (is : IsPeriod rule (pos period)) (positive : 0 < period) (first : ℤ)
    (low : neg_ℤ (pos 719_528) ≤ℤ first) (begin : Counted rule start count 1 first)
    (walked : Walked rule start first k (first +ℤ pos period)) where
  pub walk_at : (m : ℕ) → Walked rule start (first +ℤ pos (m * period)) k (first +ℤ pos (m * period + period))
  walk_at zero =
      let a : first ≡ first +ℤ pos (0 * period) = omega (arith, signed_arith) in
      let b : first +ℤ pos period ≡ first +ℤ pos (0 * period + period) = omega (arith, signed_arith) in
      subst (λ (z : ℤ). Walked rule start z k (first +ℤ pos (0 * period + period))) a
      (subst (λ (z : ℤ). Walked rule start first k z) b walked)
  walk_at (suc m) =
      let a : (first +ℤ pos (m * period)) +ℤ pos period ≡ first +ℤ pos (suc m * period) = omega (arith, signed_arith) in
      let b : (first +ℤ pos (m * period + period)) +ℤ pos period ≡ first +ℤ pos (suc m * period + period) = omega (arith, signed_arith) in
      subst (λ (z : ℤ). Walked rule start z k (first +ℤ pos (suc m * period + period))) a
      (subst (λ (z : ℤ). Walked rule start ((first +ℤ pos (m * period)) +ℤ pos period) k z) b
      (walk_later rule start (pos period) is (omega (arith, signed_arith)) k (first +ℤ pos (m * period))
      (first +ℤ pos (m * period + period)) (omega (arith, signed_arith)) (walk_at m)))

  pub Counted-periods : (m : ℕ) → 1 + m * k ≤ count → (first +ℤ pos (m * period)) ≤ℤ pos 2_932_897 →
      Counted rule start count (1 + m * k) (first +ℤ pos (m * period))
  Counted-periods zero room high =
      let a : first ≡ first +ℤ pos (0 * period) = omega (arith, signed_arith) in
      let n : 1 ≡ 1 + 0 * k = omega arith in
      subst (λ (z : ℤ). Counted rule start count (1 + 0 * k) z) a (subst (λ (n : ℕ). Counted rule start count n first) n begin)
  Counted-periods (suc m) room high =
      let before = Counted-periods m (omega arith) (omega (arith, signed_arith)) in
      let a : first +ℤ pos (m * period + period) ≡ first +ℤ pos (suc m * period) = omega (arith, signed_arith) in
      let n : 1 + m * k + k ≡ 1 + suc m * k = omega arith in
      subst (λ (z : ℤ). Counted rule start count (1 + suc m * k) z) a
      (subst (λ (n : ℕ). Counted rule start count n (first +ℤ pos (m * period + period))) n
      (Counted-walked rule start count (1 + m * k) k (first +ℤ pos (m * period)) (first +ℤ pos (m * period + period))
      (omega (arith, signed_arith)) (omega (arith, signed_arith)) (omega arith) before (walk_at m)))

pub none_passed : (rule : Rule) (start : ℤ) (count : ℕ) → IsDayNumber start → Counted rule start count 1 (start +ℤ pos 1 +ℤ pos 0)
none_passed rule start count start_in =
    let same : start +ℤ pos 1 ≡ start +ℤ pos 1 +ℤ pos 0 = omega (arith, signed_arith) in
    subst (λ (z : ℤ). Counted rule start count 1 z) same (Counted-start rule start count start_in)

pub all_passed : (rule : Rule) (start : ℤ) (count seen period days all_seen all_days : ℕ) → IsDayNumber start →
    IsPeriod rule (pos period) → 0 < period → Walked rule start (start +ℤ pos 1) seen ((start +ℤ pos 1) +ℤ pos period) →
    IsPassed seen period (count - 1) days all_seen all_days → 1 < count → ((start +ℤ pos 1) +ℤ pos all_days) ≤ℤ pos 2_932_897
    → Counted rule start count (1 + all_seen) (start +ℤ pos 1 +ℤ pos all_days)
all_passed rule start count seen period days all_seen all_days start_in is positive walked passed many high =
    let n : 1 + passed.times * seen ≡ 1 + all_seen = omega (arith, passed.seen_is) in
    let z : (start +ℤ pos 1) +ℤ pos (passed.times * period) ≡ start +ℤ pos 1 +ℤ pos all_days =
    omega (arith, signed_arith, passed.days_are) in
    subst (λ (z : ℤ). Counted rule start count (1 + all_seen) z) z
    (subst (λ (n : ℕ). Counted rule start count n ((start +ℤ pos 1) +ℤ pos (passed.times * period))) n
    (Counted-periods rule start count seen period is positive (start +ℤ pos 1) (omega (arith, signed_arith, start_in))
    (Counted-start rule start count start_in) walked passed.times (omega (arith, passed.seen_room, passed.seen_is))
    (omega (arith, signed_arith, high, passed.days_are))))
