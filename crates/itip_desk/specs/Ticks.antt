-- The ticks of a desk, and which UIDs moved after a tick (our own rule).
use Rattle.std.specs.Prelude.{◌≡◌, ◌↔◌, ℕ, ◌+◌, ◌<◌, List, [], ◌∷◌, ◌++◌, ◌⊎◌}
use Rattle.std.specs.List.{Contains}
use Rattle.itip_items.specs.KeyParts.{uid_of}
use Rattle.itip_items.specs.declared.item.Item.{Item}
use Rattle.itip_state.specs.Kept.{KeepSame, Moves}
use Rattle.itip_desk.specs.HeardSteps.{heard}

-- a step that moves a UID raises the tick by one, and no other does
abbrev pub TickStep : List Item → List Item → ℕ → ℕ → Type 0
TickStep before step tick next = (((uid : List ℕ) × Moves before step uid) × (next ≡ tick + 1)) ⊎
    (((uid : List ℕ) → KeepSame uid before (before ++ step)) × (next ≡ tick))

-- the tick after these steps, if it was `tick` when `before` had been heard
abbrev pub Ticks : List Item → ℕ → List (List Item) → ℕ → Type 0
Ticks before tick [] last = last ≡ tick
Ticks before tick (step ∷ steps) last = (next : ℕ) × TickStep before step tick next × Ticks (before ++ step) next steps last

-- a UID moved in one of these steps that left the tick above `since`, if the tick was `tick` when `before` had been heard
abbrev pub MovedAfter : List Item → ℕ → List (List Item) → ℕ → List ℕ → Type 0
MovedAfter before tick [] since uid = ⊥
MovedAfter before tick (step ∷ steps) since uid =
    (next : ℕ) × TickStep before step tick next ×
    ((Moves before step uid × (since < next)) ⊎ MovedAfter (before ++ step) next steps since uid)

-- These are all items heard in these steps from a starting tick, kept or not, that are of UIDs that moved after a tick.
abbrev pub TellsAfter : ℕ → List (List Item) → ℕ → List Item → Type 0
TellsAfter start steps since told =
    (item : Item) → Contains told item ↔ (Contains (heard steps) item × MovedAfter [] start steps since (uid_of item.key))
