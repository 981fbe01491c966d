-- What stands beside the series item, and which answers count.
use Rattle.std.proofs.Common.{◌≡◌, ◌≤◌, ◌<◌, ℕ, List, subst, arith, Option, Some, None}
use Rattle.std.specs.List.{Contains}
use Rattle.itip_items.specs.declared.item.Item.{Item}
use Rattle.itip_items.specs.declared.key.Key.{Key}
use Rattle.itip_items.specs.declared.key.Key.TheVariants.{Series}
use Rattle.itip_state.specs.Kept.{IsBest}
use Rattle.itip_view.specs.Answers.{Asked, NoneCounts}
use Rattle.itip_view.specs.RowsOfUid.{IsSeriesItem, StandsBesideOf}
use Rattle.itip_view.specs.Standing.{StandsUnder, StandsBeside}
use Rattle.itip_view.proofs.OneRow.{one_best}

-- of an instance, or of it and all after it
module _ (items : List Item) (uid : List ℕ) (key : Key) where
  pub stands_from : (series : Option Item) (item : Item) → IsSeriesItem items uid series → IsBest items key item →
      StandsBesideOf series item → StandsUnder items uid key item
  stands_from None item none best beside = record { best = best; beside = λ s b. absurd (none s b.is_heard b.about) }
  stands_from (Some t) item of best beside =
      record { best = best; beside = λ s b. subst (λ (x : Item). StandsBeside x item) (one_best items (Series uid) t s of b) beside }

  pub beside_from : (series : Option Item) (item : Item) → IsSeriesItem items uid series → StandsUnder items uid key item →
      StandsBesideOf series item
  beside_from None item none stands = tt
  beside_from (Some t) item of stands = stands.beside t of

  pub none_found : ((i : Item) → Contains items i → i.key ≡ key → ⊥) → (i : Item) → ¬ StandsUnder items uid key i
  none_found none = λ i stands. none i stands.best.is_heard stands.best.about

  pub none_beside : (series : Option Item) (item : Item) → IsSeriesItem items uid series → IsBest items key item →
      (StandsBesideOf series item → ⊥) → (i : Item) → ¬ StandsUnder items uid key i
  none_beside series item of best not =
      λ i stands. not (beside_from series item of
      (subst (λ (x : Item). StandsUnder items uid key x) (one_best items key i item stands.best best) stands))

module _ (items : List Item) (asked : Asked) where
  pub none_counts : ((i : Item) → Contains items i → i.key ≡ asked.key → ⊥) → NoneCounts items asked
  none_counts none = λ answer counts. none answer counts.best.is_heard counts.best.about

  pub too_early : (i : Item) → IsBest items asked.key i → i.own < asked.since → NoneCounts items asked
  too_early i best early = λ answer counts.
      let since : asked.since ≤ i.own =
      subst (λ (x : Item). asked.since ≤ x.own) (one_best items asked.key answer i counts.best best) counts.since in
      omega arith
