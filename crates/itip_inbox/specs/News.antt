-- What some inputs have that others lack (our own format).
use Rattle.std.specs.Prelude.{◌≡◌, ◌↔◌, ℕ, Bool, ◌||◌, List, ◌++◌}
use Rattle.std.specs.List.{Contains}
use Rattle.itip_items.specs.declared.item.Item.{Item}
use Rattle.itip_state.specs.Kept.{IsKept}
use Rattle.itip_desk.specs.DeltaFormat.{delta_octets}
use Rattle.itip_desk.specs.Octets.{AscendOctets}
use Rattle.itip_inbox.specs.Inbox.{IsInbox, is_some_refused}
use Rattle.itip_inbox.specs.declared.refused.RefusedMessage.{RefusedMessage}

-- what is kept of two sets together and not of the first alone, sorted by canonical bytes, each once
pub record AreLacking (told heard batch : List Item) : Type 0 where
  pub ascend : AscendOctets batch
  pub same : (item : Item) → Contains batch item ↔ (IsKept (told ++ heard) item × (¬ IsKept told item))

-- The bytes of what is kept of all messages of two lists of inputs that are not refused, and not of those of the first alone; and
-- whether a message of either is refused.
pub record IsNews (than inputs : List (List ℕ)) (octets : List ℕ) (refused : Bool) : Type 0 where
  pub told : List Item
  pub noted : List RefusedMessage
  pub known : IsInbox than told noted
  pub heard : List Item
  pub refusals : List RefusedMessage
  pub inbox : IsInbox inputs heard refusals
  pub batch : List Item
  pub lacking : AreLacking told heard batch
  pub octets_are : octets ≡ delta_octets batch
  pub refused_is : refused ≡ (is_some_refused noted || is_some_refused refusals)
