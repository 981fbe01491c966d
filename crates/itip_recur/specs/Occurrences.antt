-- The list of the moments of a series in a window of days (our own form).
use Rattle.std.specs.Prelude.{◌↔◌, ℕ, ◌<◌, List, length, ℤ, ◌≤ℤ◌, ◌<ℤ◌}
use Rattle.std.specs.List.{Contains}
use Rattle.std.specs.List.Sorted.{IsStrictlySortedBy}
use Rattle.itip_moment.specs.declared.moment.Moment.{Moment}
use Rattle.itip_moment.specs.Moment.{moment_day}
use Rattle.itip_moment.specs.Order.{moment_cmp}
use Rattle.itip_recur.specs.declared.series.Series.{Series}
use Rattle.itip_recur.specs.declared.error.RecurError.{RecurError}
use Rattle.itip_recur.specs.declared.error.RecurError.TheVariants.{TooMany, NoMemory}
use Rattle.itip_recur.specs.Members.{Occurs}

-- the most occurrences that are listed (our own limit)
abbrev pub occurrence_limit : ℕ
occurrence_limit = 100_000

-- a moment of the series whose day lies in the window, from `from` up to but not including `to`
pub record OccursIn (series : Series) (from to : ℤ) (m : Moment) : Type 0 where
  pub occurs : Occurs series m
  pub not_before : from ≤ℤ moment_day m
  pub before_end : moment_day m <ℤ to

-- exactly the moments of the series in the window, in ascending order, each once
pub record AreOccurrences (series : Series) (from to : ℤ) (moments : List Moment) : Type 0 where
  pub ascending : IsStrictlySortedBy moment_cmp moments
  pub exactly : (m : Moment) → Contains moments m ↔ OccursIn series from to m

-- more than `limit` moments of the series lie in the window
pub record AreOver (limit : ℕ) (series : Series) (from to : ℤ) : Type 0 where
  pub some : List Moment
  pub ascending : IsStrictlySortedBy moment_cmp some
  pub each : (m : Moment) → Contains some m → OccursIn series from to m
  pub many : limit < length some

-- P holds if occurrences are refused for their number
abbrev pub IfTooMany : RecurError → Type 0 → Type 0
IfTooMany TooMany P = P
IfTooMany NoMemory P = Unit {0}
