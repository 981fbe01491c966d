-- What a step of a listing adds to the moments that were found (our own form).
use Rattle.std.specs.Prelude.{◌≡◌, ◌↔◌, ℕ, ◌<◌, ◌≤◌, ◌⊎◌, List, length, Result, Ok, Err, ℤ, ◌≤ℤ◌, ◌<ℤ◌}
use Rattle.std.specs.List.{Contains}
use Rattle.std.specs.List.Sorted.{IsStrictlySortedBy}
use Rattle.itip_moment.specs.declared.moment.Moment.{Moment}
use Rattle.itip_moment.specs.Moment.{moment_day}
use Rattle.itip_moment.specs.Order.{moment_cmp}
use Rattle.itip_recur.specs.declared.series.Series.{Series}
use Rattle.itip_recur.specs.declared.rule.Rule.{Rule}
use Rattle.itip_recur.specs.declared.error.RecurError.{RecurError}
use Rattle.itip_recur.specs.declared.ascending.Ascending.{Ascending}
use Rattle.itip_recur.specs.Members.{HasTimeOf, IsRuleMember, IsRepeat, IsCandidate, IsWithinEnd}
use Rattle.itip_recur.specs.Walk.{IsUpTo}
use Rattle.itip_recur.specs.Occurrences.{IfTooMany}

-- the moments are now the old ones and those for which P holds; they stay within the limit if the old ones were
pub record Adds (limit : ℕ) (P : Moment → Type 0) (old new : List Moment) : Type 0 where
  pub exactly : (m : Moment) → Contains new m ↔ (Contains old m ⊎ P m)
  pub small : length old ≤ limit → length new ≤ limit

-- there are more moments than the limit, each of which is an old one or one for which P holds
pub record Exceeds (limit : ℕ) (P : Moment → Type 0) (old new : List Moment) : Type 0 where
  pub ascending : IsStrictlySortedBy moment_cmp new
  pub each : (m : Moment) → Contains new m → Contains old m ⊎ P m
  pub many : limit < length new

-- the moments are now the old ones and those for which P holds
abbrev pub Gains : (Moment → Type 0) → List Moment → List Moment → Type 0
Gains P old new = (m : Moment) → Contains new m ↔ (Contains old m ⊎ P m)

-- all lie on days before this one
abbrev pub AreBefore : ℤ → List Moment → Type 0
AreBefore day moments = (m : Moment) → Contains moments m → moment_day m <ℤ day

-- a moment of the window that isn't excluded
pub record IsKept (series : Series) (from to : ℤ) (m : Moment) : Type 0 where
  pub stays : Contains series.exdates m → ⊥
  pub not_before : from ≤ℤ moment_day m
  pub before_end : moment_day m <ℤ to

-- the start, if it is a member and is kept
pub record IsStart (series : Series) (from to : ℤ) (m : Moment) : Type 0 where
  pub is : m ≡ series.start
  pub member : IsRuleMember series.rule series.start m
  pub kept : IsKept series from to m

-- a repeat within the end of the rule that is kept
pub record IsRepeatOf (series : Series) (rule : Rule) (from to : ℤ) (m : Moment) : Type 0 where
  pub repeat : IsRepeat rule series.start m
  pub within : IsWithinEnd rule.end (IsCandidate rule series.start) m
  pub kept : IsKept series from to m

-- a repeat on one of these days, `end` not among them, if UNTIL leaves it and it isn't excluded
pub record IsBetween (series : Series) (rule : Rule) (from end : ℤ) (m : Moment) : Type 0 where
  pub repeat : IsRepeat rule series.start m
  pub not_before : from ≤ℤ moment_day m
  pub before_end : moment_day m <ℤ end
  pub up_to : IsUpTo rule.end m
  pub stays : Contains series.exdates m → ⊥

-- the moment of that day with the start's time of day, if UNTIL leaves it and it isn't excluded
pub record IsOnDay (series : Series) (rule : Rule) (day : ℤ) (m : Moment) : Type 0 where
  pub time : HasTimeOf series.start m
  pub day_is : moment_day m ≡ day
  pub up_to : IsUpTo rule.end m
  pub stays : Contains series.exdates m → ⊥

-- this moment, if it is kept
pub record IsThis (series : Series) (from to : ℤ) (moment m : Moment) : Type 0 where
  pub is : m ≡ moment
  pub kept : IsKept series from to m

-- one of these moments that is kept
pub record IsOneOf (moments : List Moment) (series : Series) (from to : ℤ) (m : Moment) : Type 0 where
  pub among : Contains moments m
  pub kept : IsKept series from to m

-- a member that is kept
pub record IsMemberIn (series : Series) (from to : ℤ) (m : Moment) : Type 0 where
  pub member : IsRuleMember series.rule series.start m
  pub kept : IsKept series from to m

-- a step that adds the moments for which P holds, or finds too many
abbrev pub IsStep : {T : Type 0} → ℕ → (Moment → Type 0) → List Moment → List Moment → Result T RecurError → Type 0
IsStep limit P old new (Ok x) = Adds limit P old new
IsStep limit P old new (Err e) = IfTooMany e (Exceeds limit P old new)

-- a step that returns the old moments and those for which P holds, or finds too many
abbrev pub IsGrown : ℕ → (Moment → Type 0) → List Moment → Result Ascending RecurError → Type 0
IsGrown limit P old (Ok found) = Adds limit P old found.moments.items
IsGrown limit P old (Err e) = IfTooMany e ((new : List Moment) × Exceeds limit P old new)
