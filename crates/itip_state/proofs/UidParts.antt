-- What a state keeps of one UID.
use Rattle.std.proofs.Common.{ℕ, List}
use Rattle.itip_items.specs.declared.item.Item.{Item}
use Rattle.itip_state.specs.Kept.{ArePart, AscendKeys}
use Rattle.itip_state.specs.OfUid.{IsUidPart}
use Rattle.itip_state.specs.Order.{IsState}
use Rattle.itip_state.proofs.Keeping.{kept_in_part}

-- the part of a state that is about one UID is a state
part_state : (uid : List ℕ) (part whole : List Item) → ArePart uid part whole → IsState whole → IsState part
part_state uid part whole are is i = (
  λ h. let there = (are i).0 h in (kept_in_part uid part whole are i there.1).1 ((is i).0 there.0),
  λ kept. kept.best.is_heard,
)

pub uid_part : (uid : List ℕ) (part whole : List Item) → ArePart uid part whole → AscendKeys part → IsState whole →
    IsUidPart (record { uid = uid; items = part })
uid_part uid part whole are ascend is = record { about = λ i h. ((are i).0 h).1; ascend = ascend; state = part_state uid part whole are is }
