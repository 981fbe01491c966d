-- The sequences that organizers have used (our own rule): those of REQUEST, ADD and CANCEL, also if it removes an attendee.
use Rattle.std.specs.Prelude.{◌≡◌, ◌≤◌, ℕ, max, List, [], ◌∷◌, Option, Some, None, Bool, true, false, if◌then◌else◌}
use Rattle.itip_items.specs.KeyParts.{uid_of}
use Rattle.itip_items.specs.declared.item.Item.{Item}
use Rattle.itip_items.specs.declared.kind.Kind.{Kind}
use Rattle.itip_items.specs.declared.kind.Kind.TheVariants as kind
use Rattle.itip_state.specs.Kept.{IsKept}

abbrev pub is_organizers : Kind → Bool
is_organizers kind.Request = true
is_organizers kind.Add = true
is_organizers kind.Remove = true
is_organizers kind.Cancel = true
is_organizers kind.Reply = false
is_organizers kind.Refresh = false

-- the effective sequence of an item, if an organizer has sent it
abbrev pub used_by : Item → Option ℕ
used_by item = if is_organizers item.kind then Some item.eff else None

-- a kept item of a UID that its organizer has sent
pub record IsOrganizers (heard : List Item) (uid : List ℕ) (item : Item) : Type 0 where
  pub kept : IsKept heard item
  pub about : uid_of item.key ≡ uid
  pub sent : is_organizers item.kind ≡ true

-- a kept item of the organizer has this effective sequence
pub record IsUsed (heard : List Item) (uid : List ℕ) (sequence : ℕ) : Type 0 where
  pub item : Item
  pub of_organizer : IsOrganizers heard uid item
  pub eff_is : item.eff ≡ sequence

-- the greatest effective sequence of the kept items of the organizer of a UID, or nothing if there are no such items
abbrev pub IsLastUsed : List Item → List ℕ → Option ℕ → Type 0
IsLastUsed heard uid None = (item : Item) → ¬ IsOrganizers heard uid item
IsLastUsed heard uid (Some sequence) = IsUsed heard uid sequence × ((item : Item) → IsOrganizers heard uid item → item.eff ≤ sequence)

-- the greater of two sequences, if there are any
abbrev pub greater : Option ℕ → Option ℕ → Option ℕ
greater None used = used
greater (Some last) None = Some last
greater (Some last) (Some used) = Some (max last used)

-- the greatest of a sequence and those used by items
abbrev pub greatest : Option ℕ → List Item → Option ℕ
greatest last [] = last
greatest last (item ∷ items) = greatest (greater last (used_by item)) items
