-- The messages that an organizer sends again (our own rule).
use Rattle.std.specs.Prelude.{◌≡◌, ℕ, List, ◌∷◌, Option, Some, None}
use Rattle.std.specs.List.{flat_map}
use Rattle.itip_items.specs.declared.item.Item.{Item}
use Rattle.itip_view.specs.Standing.{IsLiveSeries}
use Rattle.itip_report.specs.Lines.{AreReported}
use Rattle.itip_report.specs.Reports.{IsStanding}

-- the overrides of a UID: its instance and range items that stand, by moment, an instance before a range of its moment
abbrev pub AreStanding : List Item → List ℕ → List Item → Type 0
AreStanding heard uid items = AreReported (IsStanding heard uid) items

-- the live series item of a UID, and its overrides
pub record AreResent (heard : List Item) (uid : List ℕ) (series : Item) (overrides : List Item) : Type 0 where
  pub live : IsLiveSeries heard uid series
  pub standing : AreStanding heard uid overrides

-- the canonical messages of the live series item, then of the overrides
pub record IsResend (heard : List Item) (uid : List ℕ) (bytes : List ℕ) : Type 0 where
  pub series : Item
  pub live : IsLiveSeries heard uid series
  pub overrides : List Item
  pub standing : AreStanding heard uid overrides
  pub bytes_are : bytes ≡ flat_map (λ (item : Item). item.bytes) (series ∷ overrides)

-- what is sent again of a UID: nothing if no series item is live
abbrev pub IsResendOf : List Item → List ℕ → Option (List ℕ) → Type 0
IsResendOf heard uid None = (item : Item) → ¬ IsLiveSeries heard uid item
IsResendOf heard uid (Some bytes) = IsResend heard uid bytes
