-- What is worked out of a rule once, to ask it about many moments (our own form).
use Rattle.std.specs.Prelude.{◌≡◌, ◌↔◌, ◌%◌, Option, Some, None, ℤ, pos, ◌<ℤ◌}
use Rattle.itip_moment.specs.declared.moment.Moment.{Moment}
use Rattle.itip_moment.specs.Moment.{moment_day}
use Rattle.itip_recur.specs.declared.rule.Rule.{Rule}
use Rattle.itip_recur.specs.declared.prepared_rule.PreparedRule.{PreparedRule}
use Rattle.itip_recur.specs.Members.{IsRepeat, IsCandidate, IsWithinEnd}
use Rattle.itip_recur.specs.SelectedDays.{unit_number, InPattern}
use Rattle.itip_recur.specs.Sets.{AreSetsOf}
use Rattle.itip_recur.specs.Walk.{IsUpTo}

-- the sets are those of the rule's lists, and the residue is that of the rule's own units; a repeat is in the calendar and within the end
-- of the rule exactly if it is before this end and UNTIL leaves it
pub record IsPreparedRule (rule : Rule) (start : Moment) (days : PreparedRule) : Type 0 where
  pub sets : AreSetsOf rule.frequency days.sets
  pub residue : days.residue ≡ unit_number rule.frequency rule.week_start (moment_day start) % rule.interval
  pub ends : (m : Moment) → IsRepeat rule start m → ((moment_day m <ℤ pos 2_932_897) × IsWithinEnd rule.end (IsCandidate rule start) m) ↔
      ((moment_day m <ℤ days.end) × IsUpTo rule.end m)

-- without a rule there is nothing to work out
abbrev pub IsPreparedSeries : Option Rule → Moment → Option PreparedRule → Type 0
IsPreparedSeries None start days = days ≡ None
IsPreparedSeries (Some rule) start None = ⊥
IsPreparedSeries (Some rule) start (Some days) = IsPreparedRule rule start days

-- the moment is on a later day of the pattern, before `end`, and UNTIL leaves it
pub record MayRepeat (rule : Rule) (start : Moment) (end : ℤ) (m : Moment) : Type 0 where
  pub later : moment_day start <ℤ moment_day m
  pub before_end : moment_day m <ℤ end
  pub up_to : IsUpTo rule.end m
  pub in_pattern : InPattern rule (moment_day start) (moment_day m)

-- a repeat within the end of its rule
pub record IsLaterMember (rule : Rule) (start m : Moment) : Type 0 where
  pub repeat : IsRepeat rule start m
  pub within : IsWithinEnd rule.end (IsCandidate rule start) m
