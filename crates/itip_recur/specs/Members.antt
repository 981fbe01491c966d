-- The moments of a series (RFC 5545 3.8.5): those of its rule, which end by COUNT or UNTIL, with RDATE, without EXDATE.
use Rattle.std.specs.Prelude.{◌≡◌, ◌≢◌, ℕ, ◌<◌, ◌⊎◌, List, length, Option, Some, None}
use Rattle.std.specs.List.{Contains}
use Rattle.std.specs.declared.cmp.Ordering.TheVariants.{Less, Greater}
use Rattle.itip_moment.specs.declared.moment.Moment.{Moment}
use Rattle.itip_moment.specs.Moment.{moment_day, moment_form, moment_second, moment_zone}
use Rattle.itip_moment.specs.Order.{moment_cmp}
use Rattle.itip_recur.specs.declared.rule.Rule.{Rule}
use Rattle.itip_recur.specs.declared.rule.End.{End}
use Rattle.itip_recur.specs.declared.rule.End.TheVariants.{Never, Count, Until}
use Rattle.itip_recur.specs.declared.series.Series.{Series}
use Rattle.itip_recur.specs.SelectedDays.{IsLaterDay}

-- both have the same form, zone and second of the day
pub record HasTimeOf (start m : Moment) : Type 0 where
  pub form : moment_form m ≡ moment_form start
  pub second : moment_second m ≡ moment_second start
  pub zone : moment_zone m ≡ moment_zone start

-- later than the start, with its form, zone and time of day, on a day of the pattern
pub record IsRepeat (rule : Rule) (start m : Moment) : Type 0 where
  pub same_time : HasTimeOf start m
  pub day : IsLaterDay rule (moment_day start) (moment_day m)

-- what COUNT counts: the start, even if it is outside the pattern, and each repeat
abbrev pub IsCandidate : Rule → Moment → Moment → Type 0
IsCandidate rule start m = (m ≡ start) ⊎ IsRepeat rule start m

-- P holds for fewer than `count` moments
pub record AreFewer (P : Moment → Type 0) (count : ℕ) : Type 0 where
  pub all : List Moment
  pub each : (m : Moment) → P m → Contains all m
  pub few : length all < count

-- m lies within the end of a rule with these candidates
abbrev pub IsWithinEnd : End → (Moment → Type 0) → Moment → Type 0
IsWithinEnd Never P m = Unit {0}
IsWithinEnd (Count n) P m = AreFewer (λ e. P e × (moment_cmp e m ≡ Less)) n
IsWithinEnd (Until last) P m = moment_cmp m last ≢ Greater

pub record IsMember (rule : Rule) (start m : Moment) : Type 0 where
  pub candidate : IsCandidate rule start m
  pub within : IsWithinEnd rule.end (IsCandidate rule start) m

-- without a rule the start is the only member
abbrev pub IsRuleMember : Option Rule → Moment → Moment → Type 0
IsRuleMember None start m = m ≡ start
IsRuleMember (Some rule) start m = IsMember rule start m

pub record Occurs (series : Series) (m : Moment) : Type 0 where
  pub there : IsRuleMember series.rule series.start m ⊎ Contains series.rdates m
  pub stays : Contains series.exdates m → ⊥
