-- Days of a rule that are counted from its start (our own form).
use Rattle.std.specs.Prelude.{◌≡◌, ◌↔◌, ℕ, zero, suc, ◌*◌, ◌≤◌, List, length, map, ℤ, pos, neg_ℤ, ◌+ℤ◌, ◌≤ℤ◌, ◌<ℤ◌}
use Rattle.std.specs.List.{Contains, IsDistinct}
use Rattle.std.specs.Ordering.{int_eq}
use Rattle.itip_moment.specs.declared.day.Day.{Day}
use Rattle.itip_recur.specs.declared.rule.Rule.{Rule}
use Rattle.itip_recur.specs.SelectedDays.{InPattern, IsLaterDay}
use Rattle.itip_recur.specs.Walk.{IsNoDay, IsNextDay, AreFewerDays, IsEarlier}

-- the rule has `seen` days before `day`, and each of them after the start has fewer than `count` before it
pub record Counted (rule : Rule) (start : ℤ) (count seen : ℕ) (day : ℤ) : Type 0 where
  pub after : start <ℤ day
  pub days : List Day
  pub exactly : (e : Day) → Contains days e ↔ IsEarlier rule start day e.number
  pub distinct : IsDistinct int_eq (map (λ d. d.number) days)
  pub many : length days ≡ seen
  pub inside : (d : ℤ) → IsLaterDay rule start d → d <ℤ day → AreFewerDays (IsEarlier rule start d) count

-- `count` days of the pattern lie from `from` on and before `end`
abbrev pub Walked : Rule → ℤ → ℤ → ℕ → ℤ → Type 0
Walked rule start from zero end = (from ≤ℤ end) × IsNoDay rule start from end
Walked rule start from (suc count) end = (found : ℤ) × IsNextDay rule start from end found × Walked rule start (found +ℤ pos 1) count end

-- from 0000-01-01 on, a day is in the pattern exactly when the day `period` days later is
abbrev pub IsPeriod : Rule → ℤ → Type 0
IsPeriod rule period = (start day : ℤ) → neg_ℤ (pos 719_528) ≤ℤ day → InPattern rule start day ↔ InPattern rule start (day +ℤ period)

-- some periods for which there is room, each of `period` days of which `seen` are in the pattern
pub record IsPassed (seen period count days all_seen all_days : ℕ) : Type 0 where
  pub times : ℕ
  pub seen_is : all_seen ≡ times * seen
  pub days_are : all_days ≡ times * period
  pub seen_room : all_seen ≤ count
  pub days_room : all_days ≤ days
