-- Bytes of several messages, such as those of a delta, and the items of each (our own form).
use Rattle.std.specs.Prelude.{ℕ, List, [], ◌∷◌}
use Rattle.itip_todo.specs.Limits.{Limits}
use Rattle.itip_items.specs.declared.item.Item.{Item}
use Rattle.itip_message.specs.Cutting.{IsCutInto}
use Rattle.itip_message.specs.Message.{ReadsMessageWithin}

-- each of these texts is a message, within these limits of to-dos, and gives the items beside it
abbrev pub AreMessagesWithin : Limits → List (List ℕ) → List (List Item) → Type 0
AreMessagesWithin limits [] [] = Unit {0}
AreMessagesWithin limits [] (items ∷ given) = ⊥
AreMessagesWithin limits (text ∷ texts) [] = ⊥
AreMessagesWithin limits (text ∷ texts) (items ∷ given) = ReadsMessageWithin limits text items × AreMessagesWithin limits texts given

-- the bytes are cut into messages, which give these items, within these limits
pub record ReadsMessagesWithin (limits : Limits) (bytes : List ℕ) (given : List (List Item)) : Type 0 where
  pub messages : List (List ℕ)
  pub cut : IsCutInto bytes messages
  pub read : AreMessagesWithin limits messages given
