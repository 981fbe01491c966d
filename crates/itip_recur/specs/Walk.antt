-- What the walk over the days of a rule finds (our own form).
use Rattle.std.specs.Prelude.{◌≡◌, ◌≢◌, ◌↔◌, ℕ, ◌+◌, ◌%◌, ◌^◌, ◌<◌, ◌≤◌, List, length, ℤ, ◌≤ℤ◌, ◌<ℤ◌}
use Rattle.std.specs.List.{Contains}
use Rattle.std.specs.declared.cmp.Ordering.TheVariants.{Greater}
use Rattle.itip_moment.specs.declared.day.Day.{Day}
use Rattle.itip_moment.specs.declared.moment.Moment.{Moment}
use Rattle.itip_moment.specs.Order.{moment_cmp}
use Rattle.itip_recur.specs.declared.rule.End.{End}
use Rattle.itip_recur.specs.declared.rule.End.TheVariants.{Never, Count, Until}
use Rattle.itip_recur.specs.declared.rule.Rule.{Rule}
use Rattle.itip_moment.specs.Years.{IsDayNumber}
use Rattle.itip_recur.specs.Calendar.{IsDayOrEnd}
use Rattle.itip_recur.specs.SelectedDays.{unit_number, InPattern, IsLaterDay, IsRuleDay}

-- no day from `from` on and before `end` is in the pattern
abbrev pub IsNoDay : Rule → ℤ → ℤ → ℤ → Type 0
IsNoDay rule start from end = (day : ℤ) → from ≤ℤ day → day <ℤ end → InPattern rule start day → ⊥

-- the first day of the pattern from `from` on, which lies before `end`
pub record IsNextDay (rule : Rule) (start from end day : ℤ) : Type 0 where
  pub not_before : from ≤ℤ day
  pub before_end : day <ℤ end
  pub in_pattern : InPattern rule start day
  pub first : IsNoDay rule start from day

-- P holds for fewer than `count` days
pub record AreFewerDays (P : ℤ → Type 0) (count : ℕ) : Type 0 where
  pub all : List Day
  pub each : (day : Day) → P day.number → Contains all day
  pub few : length all < count

-- a day of the rule, which may be the start, before another day
abbrev pub IsEarlier : Rule → ℤ → ℤ → ℤ → Type 0
IsEarlier rule start day e = IsRuleDay rule start e × (e <ℤ day)

-- of the later days of the pattern that lie before `end`, those before `last` have fewer than `count` earlier days, and no other has
pub record IsEndOfCount (rule : Rule) (start : ℤ) (count : ℕ) (end last : ℤ) : Type 0 where
  pub inside : (day : ℤ) → IsLaterDay rule start day → day <ℤ end → day <ℤ last → AreFewerDays (IsEarlier rule start day) count
  pub outside : (day : ℤ) → IsLaterDay rule start day → day <ℤ end → last ≤ℤ day → AreFewerDays (IsEarlier rule start day) count → ⊥

-- UNTIL, if there is one, is not before the moment
abbrev pub IsUpTo : End → Moment → Type 0
IsUpTo Never m = Unit {0}
IsUpTo (Count n) m = Unit {0}
IsUpTo (Until last) m = moment_cmp m last ≢ Greater

-- `first` is a day in one of the rule's own units, whose number is `unit`, or the end of the calendar; from `day` on, no day of the
-- pattern is before it
pub record IsUnitFrom (rule : Rule) (start day : ℤ) (unit : ℕ) (first : ℤ) : Type 0 where
  pub bounds : IsDayOrEnd first
  pub not_before : day ≤ℤ first
  pub skipped : IsNoDay rule start day first
  pub low : (x : ℤ) → IsDayNumber x → first ≤ℤ x → unit ≤ unit_number rule.frequency rule.week_start x
  pub high : IsDayNumber first → unit_number rule.frequency rule.week_start first ≤ unit
  pub small : unit < 2 ^ 22 + 2 ^ 16
  pub congruent : unit % rule.interval ≡ unit_number rule.frequency rule.week_start start % rule.interval

-- the days before `first` are those of the units before this one
abbrev pub IsFirstDay : Rule → ℕ → ℤ → Type 0
IsFirstDay rule unit first = (day : ℤ) → IsDayNumber day → (day <ℤ first) ↔ (unit_number rule.frequency rule.week_start day < unit)

-- the days from `from` on and before `stop` lie in the unit with this number
abbrev pub IsInUnit : Rule → ℕ → ℤ → ℤ → Type 0
IsInUnit rule unit from stop = (day : ℤ) → from ≤ℤ day → day <ℤ stop → unit_number rule.frequency rule.week_start day ≡ unit
