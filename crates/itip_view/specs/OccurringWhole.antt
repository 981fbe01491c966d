-- A to-do as a whole, ready to be asked where it occurs (our own form).
use Rattle.std.specs.Prelude.{◌≡◌, ◌↔◌, ℕ, List, Option, Some, None}
use Rattle.itip_moment.specs.declared.moment.Moment.{Moment}
use Rattle.itip_items.specs.declared.item.Item.{Item}
use Rattle.itip_recur.specs.Members.{Occurs}
use Rattle.itip_recur.specs.declared.series.Series.{Series}
use Rattle.itip_recur.specs.declared.series.Shape.{Shape}
use Rattle.itip_recur.specs.declared.series.Shape.TheVariants as shape
use Rattle.itip_view.specs.InQuestion.{OccursAt}
use Rattle.itip_view.specs.Standing.{IsLiveSeries}
use Rattle.itip_view.specs.declared.occurring_whole.OccurringWhole.{OccurringWhole}

-- the to-do of a UID occurs where this series does, or nowhere if there is none
abbrev pub AreOccurring : List Item → List ℕ → Option Series → Type 0
AreOccurring heard uid None = (at : Moment) → ¬ OccursAt heard uid at
AreOccurring heard uid (Some series) = (at : Moment) → Occurs series at ↔ OccursAt heard uid at

-- the series of the shape, if it repeats
abbrev pub IsOccurringOf : Shape → Option Series → Type 0
IsOccurringOf shape.Single found = found ≡ None
IsOccurringOf shape.Opaque found = found ≡ None
IsOccurringOf (shape.Repeats series) found = found ≡ Some series

-- the live series item of a UID and where its to-do occurs, or no series item is live
abbrev pub IsOccurringWhole : List Item → List ℕ → Option OccurringWhole → Type 0
IsOccurringWhole heard uid None = (item : Item) → ¬ IsLiveSeries heard uid item
IsOccurringWhole heard uid (Some whole) = IsLiveSeries heard uid whole.item.now × AreOccurring heard uid whole.occurring
