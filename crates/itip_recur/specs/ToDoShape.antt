-- How a to-do recurs (RFC 5545 3.8.5; what is opaque is our own rule).
use Rattle.std.specs.Prelude.{◌≡◌, ◌≢◌, ℕ, ◌⊎◌, true, List, [], ◌∷◌, Option, Some, None}
use Rattle.itip_moment.specs.declared.moment.Moment.{Moment}
use Rattle.itip_moment.specs.declared.moment.Form.TheVariants.{Zoned}
use Rattle.itip_moment.specs.Moment.{moment_form}
use Rattle.itip_todo.specs.Table.{has_period}
use Rattle.itip_todo.specs.declared.todo.Todo.{Todo}
use Rattle.itip_recur.specs.declared.rule.Rule.{Rule}
use Rattle.itip_recur.specs.declared.rule.End.{End}
use Rattle.itip_recur.specs.declared.rule.End.TheVariants.{Never, Count, Until}
use Rattle.itip_recur.specs.declared.series.Series.{Series}
use Rattle.itip_recur.specs.declared.series.Shape.{Shape}
use Rattle.itip_recur.specs.declared.series.Shape.TheVariants.{Single, Opaque, Repeats}
use Rattle.itip_recur.specs.RuleText.{RuleText}

-- an RDATE that was kept as a line: one with a `/` in its value
abbrev pub HasPeriod : Todo → Type 0
HasPeriod todo = has_period todo.others ≡ true

-- RRULE, RDATE or EXDATE is there
abbrev pub Recurs : Todo → Type 0
Recurs todo = (todo.rule ≢ []) ⊎ ((todo.rdates ≢ []) ⊎ ((todo.exdates ≢ []) ⊎ HasPeriod todo))

-- UNTIL has the form of the start, which is in no named zone: no zone is converted
abbrev pub EndFits : Moment → End → Type 0
EndFits start Never = Unit {0}
EndFits start (Count n) = Unit {0}
EndFits start (Until last) = (moment_form last ≡ moment_form start) × (moment_form start ≢ Zoned)

-- the rule of a to-do's RRULE values: none, or one of the profile
abbrev pub IsRuleOf : List (List ℕ) → Moment → Option Rule → Type 0
IsRuleOf texts start None = texts ≡ []
IsRuleOf texts start (Some rule) = (text : List ℕ) × (texts ≡ text ∷ []) × RuleText text rule × EndFits start rule.end

-- the to-do repeats as this series
pub record IsSeriesOf (todo : Todo) (series : Series) : Type 0 where
  pub recurs : Recurs todo
  pub start : todo.start ≡ Some series.start
  pub rule : IsRuleOf todo.rule series.start series.rule
  pub rdates : series.rdates ≡ todo.rdates
  pub exdates : series.exdates ≡ todo.exdates
  pub no_period : HasPeriod todo → ⊥

-- single without recurrence; with it the series, or opaque if there is none
abbrev pub IsShape : Todo → Shape → Type 0
IsShape todo Single = Recurs todo → ⊥
IsShape todo Opaque = Recurs todo × ((series : Series) → IsSeriesOf todo series → ⊥)
IsShape todo (Repeats series) = IsSeriesOf todo series
