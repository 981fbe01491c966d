-- A desk as contracts see it: what it keeps, its tick, and the UIDs that moved (our own rule).
use Rattle.std.specs.Prelude.{◌≡◌, ◌↔◌, ℕ, ◌<◌, List, [], ◌++◌, Some, refl}
use Rattle.std.specs.List.{Contains}
use Rattle.std.specs.Ordering.{nat_cmp}
use Rattle.std.specs.Cmp.Lexicographic.{slice_cmp}
use Rattle.std.specs.Coded.{Coded, code_by, coded×, coded_ℕ, coded_list}
use Rattle.itip_items.specs.KeyParts.{uid_of}
use Rattle.itip_items.specs.contracts.item.Item as item
use Rattle.itip_items.specs.declared.item.Item.{Item}
use Rattle.itip_join.specs.KeyByKey.{value_at}
use Rattle.itip_state.specs.Kept.{AreKept, KeepSame, Moves}
use Rattle.itip_desk.specs.HeardSteps.{heard}
use Rattle.itip_desk.specs.Ticks.{Ticks, MovedAfter}
use Rattle.itip_desk.specs.Octets.{AscendOctets}

pub record Shown : Type 0 where
  -- the kept items
  pub kept : List Item
  pub tick : ℕ
  -- the UIDs that moved, each with the tick that it carries
  pub changed : List (List ℕ × ℕ)

abbrev pub shown_code : Coded Shown
shown_code = code_by (List Item × (ℕ × List (List ℕ × ℕ))) (coded×
    (coded_list item.the_row.coded) (coded× coded_ℕ (coded_list (coded× (coded_list coded_ℕ) coded_ℕ))))
    (λ d. (d.kept, (d.tick, d.changed)))
    (λ p. record { kept = p.0; tick = p.1.0; changed = p.1.1 }) (λ _. refl)

-- a UID carries a tick above `since`
abbrev pub CarriesAfter : List (List ℕ × ℕ) → ℕ → List ℕ → Type 0
CarriesAfter changed since uid = (tick : ℕ) × (value_at (slice_cmp nat_cmp) changed uid ≡ Some tick) × (since < tick)

-- each UID that a step moves carries the tick after the step, and each other UID carries what it did before
pub record IsCarriedOn (old new : Shown) (step : List Item) : Type 0 where
  pub moved : (since : ℕ) (uid : List ℕ) → Moves old.kept step uid → CarriesAfter new.changed since uid ↔ (since < new.tick)
  pub others : (since : ℕ) (uid : List ℕ) → KeepSame uid old.kept (old.kept ++ step) → CarriesAfter new.changed since uid ↔
      CarriesAfter old.changed since uid

-- The desk is that of these steps from a starting tick: it keeps what is kept of all heard, its tick is that of the
-- steps, and each UID that moved carries the tick of the last step that moved it.
pub record IsDeskOf (steps : List (List Item)) (start : ℕ) (desk : Shown) : Type 0 where
  pub kept : AreKept desk.kept (heard steps)
  pub tick : Ticks [] start steps desk.tick
  pub changed : (since : ℕ) (uid : List ℕ) → CarriesAfter desk.changed since uid ↔ MovedAfter [] start steps since uid

-- the kept items of the UIDs that carry a tick above `since`, sorted by canonical bytes, each once
pub record IsDeltaOf (desk : Shown) (since : ℕ) (batch : List Item) : Type 0 where
  pub ascend : AscendOctets batch
  pub same : (item : Item) → Contains batch item ↔ (Contains desk.kept item × CarriesAfter desk.changed since (uid_of item.key))
