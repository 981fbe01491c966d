-- What follows from the kept items of a set alone (our own form).
use Rattle.std.specs.Prelude.{◌↔◌, List}
use Rattle.itip_items.specs.declared.item.Item.{Item}
use Rattle.itip_state.specs.Kept.{AreKept}

-- it holds for what is kept exactly when it holds for all that was heard
abbrev pub NeedsOnlyKept : (List Item → Type 0) → Type 0
NeedsOnlyKept P = (kept heard : List Item) → AreKept kept heard → P kept ↔ P heard

-- if it holds for what is kept, it holds for all that was heard
abbrev pub FollowsFromKept : (List Item → Type 0) → Type 0
FollowsFromKept P = (kept heard : List Item) → AreKept kept heard → P kept → P heard
