-- What decides the fates of told items (our own form).
use Rattle.std.specs.Prelude.{◌<◌, ℕ, List}
use Rattle.itip_items.specs.KeyParts.{uid_of}
use Rattle.itip_items.specs.declared.item.Item.{Item}
use Rattle.itip_items.specs.declared.key.Key.TheVariants.{Series}
use Rattle.itip_state.specs.Kept.{IsBest, CanDie, AreKept, AreOf}
use Rattle.itip_state.specs.OfUid.{IsUidPart}
use Rattle.itip_view.specs.Standing.{StandsUnder}
use Rattle.itip_explain.specs.Asking.{AreInOrder}
use Rattle.itip_explain.specs.Latest.{IsInOrder}
use Rattle.itip_explain.specs.Told.{heard_of}
use Rattle.itip_explain.specs.declared.fates.Fates.{Fates}
use Rattle.itip_explain.specs.declared.told.ToldItem.{ToldItem}

-- what was told, and the items that were heard by it
abbrev pub told_to : Fates → List ToldItem
told_to fates = fates.latest.now.told.now

abbrev pub heard_by : Fates → List Item
heard_by fates = heard_of (told_to fates)

-- what was told is of one UID, and the fates are decided by what is kept of it
pub record IsSound (fates : Fates) : Type 0 where
  pub order : IsInOrder fates.latest.now
  pub about : AreOf fates.question.uid (heard_by fates)
  pub part : IsUidPart fates.question
  pub kept : AreKept fates.question.items (heard_by fates)
  pub asked : AreInOrder fates.question.items fates.asked.askings.items

-- an item is dead below the series item
pub record Kills (heard : List Item) (item series : Item) : Type 0 where
  pub can_die : CanDie item.key
  pub best : IsBest heard (Series (uid_of item.key)) series
  pub below : item.eff < series.eff

-- an instance or range item doesn't stand beside the series item
pub record Hides (heard : List Item) (uid : List ℕ) (item series : Item) : Type 0 where
  pub best : IsBest heard (Series uid) series
  pub not_standing : StandsUnder heard uid item.key item → ⊥
