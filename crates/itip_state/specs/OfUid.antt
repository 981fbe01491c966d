-- What a state keeps of one UID (our own rule).
use Rattle.std.specs.Prelude.{ℕ, List, refl}
use Rattle.std.specs.Coded.{Coded, code_by, coded×, coded_ℕ, coded_list}
use Rattle.itip_items.specs.contracts.item.Item as item
use Rattle.itip_items.specs.declared.item.Item.{Item}
use Rattle.itip_state.specs.Kept.{AreOf, AscendKeys}
use Rattle.itip_state.specs.Order.{IsState}

-- a UID, and items
pub record UidPart : Type 0 where
  pub uid : List ℕ
  pub items : List Item

abbrev pub uid_part_code : Coded UidPart
uid_part_code = code_by (List ℕ × List Item) (coded× (coded_list coded_ℕ) (coded_list item.the_row.coded)) (λ p. (p.uid, p.items))
    (λ p. record { uid = p.0; items = p.1 }) (λ _. refl)

-- the items are about the UID, are in the order of their keys, and are a state
pub record IsUidPart (part : UidPart) : Type 0 where
  pub about : AreOf part.uid part.items
  pub ascend : AscendKeys part.items
  pub state : IsState part.items
