-- Which item stands at an instance, or from one on, and which item governs a to-do as a whole, or a moment (our own rules).
use Rattle.std.specs.Prelude.{◌≡◌, ◌≢◌, ◌⊎◌, ◌≤◌, ◌<◌, ℕ, Bool, true, false, List, Option, Some, None, if◌then◌else◌}
use Rattle.std.specs.declared.cmp.Ordering.TheVariants.{Less}
use Rattle.itip_moment.specs.Moment.{moment_form, moment_zone}
use Rattle.itip_moment.specs.Order.{moment_cmp}
use Rattle.itip_moment.specs.declared.moment.Moment.{Moment}
use Rattle.itip_items.specs.declared.item.Item.{Item}
use Rattle.itip_items.specs.declared.key.Key.{Key}
use Rattle.itip_items.specs.declared.key.Key.TheVariants.{Series, Instance, Range}
use Rattle.itip_items.specs.declared.kind.Kind.{Kind}
use Rattle.itip_items.specs.declared.kind.Kind.TheVariants as kind
use Rattle.itip_state.specs.Kept.{IsBest}

-- an item of a REQUEST or an ADD is live, a cancelled one is not; the other kinds are of no series, instance or range
abbrev pub is_live : Kind → Bool
is_live kind.Request = true
is_live kind.Add = true
is_live kind.Remove = false
is_live kind.Cancel = false
is_live kind.Reply = false
is_live kind.Refresh = false

abbrev pub IsLive : Item → Type 0
IsLive item = is_live item.kind ≡ true

-- the item, if it is live
abbrev pub if_live : Option Item → Option Item
if_live None = None
if_live (Some item) = if is_live item.kind then Some item else None

-- meant only for series, instance and range items
abbrev pub IsCancelled : Item → Type 0
IsCancelled item = is_live item.kind ≡ false

-- An instance or range item stands beside a live series item that it is not below, which is when it isn't dead, and beside a
-- cancelled one that it is above.
pub record StandsBeside (series item : Item) : Type 0 where
  pub live : IsLive series → series.eff ≤ item.eff
  pub cancelled : IsCancelled series → series.eff < item.eff

-- the item stands: it is the best one of its key, and stands beside the best series item if there is one
pub record StandsUnder (heard : List Item) (uid : List ℕ) (key : Key) (item : Item) : Type 0 where
  pub best : IsBest heard key item
  pub beside : (series : Item) → IsBest heard (Series uid) series → StandsBeside series item

-- the item stands at an instance
abbrev pub Stands : List Item → List ℕ → Moment → Item → Type 0
Stands heard uid id item = StandsUnder heard uid (Instance uid id) item

abbrev pub NoneStands : List Item → List ℕ → Moment → Type 0
NoneStands heard uid id = (item : Item) → ¬ Stands heard uid id item

-- the range item stands from an instance on
abbrev pub StandsFrom : List Item → List ℕ → Moment → Item → Type 0
StandsFrom heard uid id item = StandsUnder heard uid (Range uid id) item

-- two moments with the same form and the same zone
pub record HaveOneForm (start m : Moment) : Type 0 where
  pub form : moment_form m ≡ moment_form start
  pub zone : moment_zone m ≡ moment_zone start

-- a range from an instance on reaches the moments of its form and zone that are not before it
pub record Reaches (id at : Moment) : Type 0 where
  pub one_form : HaveOneForm id at
  pub not_before : moment_cmp at id ≢ Less

-- the range item that rules a moment: of those that stand and reach it, the one with the greatest id
pub record Rules (heard : List Item) (uid : List ℕ) (at id : Moment) (item : Item) : Type 0 where
  pub stands : StandsFrom heard uid id item
  pub reaches : Reaches id at
  pub greatest : (other : Moment) (earlier : Item) → StandsFrom heard uid other earlier → Reaches other at → moment_cmp id other ≢ Less

abbrev pub NoneRules : List Item → List ℕ → Moment → Type 0
NoneRules heard uid at = (id : Moment) (item : Item) → StandsFrom heard uid id item → Reaches id at → ⊥

-- the best series item of a UID, and it is live
pub record IsLiveSeries (heard : List Item) (uid : List ℕ) (item : Item) : Type 0 where
  pub best : IsBest heard (Series uid) item
  pub live : IsLive item

-- a standing instance item that is live
pub record IsLiveInstance (heard : List Item) (uid : List ℕ) (id : Moment) (item : Item) : Type 0 where
  pub stands : Stands heard uid id item
  pub live : IsLive item

-- the range item that rules a moment, and it is live
pub record IsLiveRange (heard : List Item) (uid : List ℕ) (at : Moment) (item : Item) : Type 0 where
  pub id : Moment
  pub rules : Rules heard uid at id item
  pub live : IsLive item

-- what governs a moment at which no instance item stands: the range item that rules it, if that is live, or the live series
-- item if none rules it
abbrev pub GovernsBetween : List Item → List ℕ → Moment → Item → Type 0
GovernsBetween heard uid at item = IsLiveRange heard uid at item ⊎ (NoneRules heard uid at × IsLiveSeries heard uid item)

-- The item that governs a to-do as a whole is its live series item. At an instance it is the one that stands there and is live or,
-- if none stands there, what governs the moment.
abbrev pub Governs : List Item → List ℕ → Option Moment → Item → Type 0
Governs heard uid None item = IsLiveSeries heard uid item
Governs heard uid (Some at) item = IsLiveInstance heard uid at item ⊎ (NoneStands heard uid at × GovernsBetween heard uid at item)
