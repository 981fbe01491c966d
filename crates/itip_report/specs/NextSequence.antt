-- The next sequence to use (our own rule; SEQUENCE: RFC 5545 3.8.7.4).
use Rattle.std.specs.Prelude.{◌<◌, ℕ, zero, suc, List, Option, Some, None}
use Rattle.itip_items.specs.declared.item.Item.{Item}
use Rattle.itip_state.specs.Organizers.{IsLastUsed}

-- the greatest SEQUENCE that there is (our own limit)
abbrev pub last_sequence : ℕ
last_sequence = 2_147_483_647

-- One more than the greatest effective sequence of the organizer's kept items of a UID, or 0 if there are none; no sequence is left
-- after the greatest that there is.
abbrev pub IsNext : List Item → List ℕ → Option ℕ → Type 0
IsNext heard uid None = IsLastUsed heard uid (Some last_sequence)
IsNext heard uid (Some zero) = IsLastUsed heard uid None
IsNext heard uid (Some (suc n)) = IsLastUsed heard uid (Some n) × (n < last_sequence)
