-- What changed after a tick, in terms of what was heard (our own rule).
use Rattle.std.specs.Prelude.{◌↔◌, ℕ, List, []}
use Rattle.std.specs.List.{Contains}
use Rattle.itip_items.specs.KeyParts.{uid_of}
use Rattle.itip_items.specs.declared.item.Item.{Item}
use Rattle.itip_state.specs.Kept.{IsKept}
use Rattle.itip_desk.specs.HeardSteps.{heard}
use Rattle.itip_desk.specs.Ticks.{MovedAfter}
use Rattle.itip_desk.specs.Octets.{AscendOctets}

-- The kept items of the UIDs that moved in a step that left the tick above `since`, by canonical bytes, each once. The steps began at
-- tick 0.
pub record IsDeltaAfter (steps : List (List Item)) (since : ℕ) (batch : List Item) : Type 0 where
  pub ascend : AscendOctets batch
  pub same : (item : Item) → Contains batch item ↔ (IsKept (heard steps) item × MovedAfter [] 0 steps since (uid_of item.key))
