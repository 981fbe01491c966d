-- The rows of one UID, by what is known of it (our own form).
use Rattle.std.specs.Prelude.{◌≡◌, List}
use Rattle.itip_moment.specs.declared.moment.Moment.{Moment}
use Rattle.itip_items.specs.declared.item.Item.{Item}
use Rattle.itip_state.specs.OfUid.{UidPart}
use Rattle.itip_view.specs.RowsOfUid.{IsWhole, IsBetween, IsOccurrence, ArePlaces, AreRowsOf}
use Rattle.itip_view.specs.Rows.{NoneStandsAtStart}
use Rattle.itip_view.specs.Standing.{Stands, NoneStands, Rules, NoneRules, IsLiveSeries}
use Rattle.itip_view.specs.declared.live_rows.UidView.{UidView}
use Rattle.itip_view.specs.declared.row.Row.{Row}
use Rattle.itip_view.specs.declared.window.Window.{Window}

module _ (view : UidView) where
  -- its to-do as a whole is the live series item, or none is live
  abbrev pub HasWhole : Type 0
  HasWhole = IsWhole view.items.now.items view.items.now.uid view.whole

  -- what governs its occurrences in the window comes from its kept items
  abbrev pub HasBetween : Type 0
  HasBetween = IsBetween view.items.now view.window view.between

  abbrev pub HasItsRows : List Row → Type 0
  HasItsRows rows = AreRowsOf view.items.now.items view.window view.items.now.uid rows

  -- its places are the moments at which there may be rows
  abbrev pub HasPlaces : Type 0
  HasPlaces = ArePlaces view.items.now.items view.window view.items.now.uid view.places.items

  abbrev pub HasOccurrence : Moment → Type 0
  HasOccurrence at = IsOccurrence view.items.now.items view.window view.items.now.uid at

  abbrev pub HasStanding : Moment → Item → Type 0
  HasStanding at item = Stands view.items.now.items view.items.now.uid at item

  abbrev pub HasNoStanding : Moment → Type 0
  HasNoStanding at = NoneStands view.items.now.items view.items.now.uid at

  -- a range item rules the moment, or none does
  abbrev pub HasRuling : Moment → Item → Type 0
  HasRuling at item = (id : Moment) × Rules view.items.now.items view.items.now.uid at id item

  abbrev pub HasNoRuling : Moment → Type 0
  HasNoRuling at = NoneRules view.items.now.items view.items.now.uid at

  abbrev pub HasLiveSeries : Item → Type 0
  HasLiveSeries item = IsLiveSeries view.items.now.items view.items.now.uid item

  -- no instance item stands at DTSTART of the series item
  abbrev pub HasNoneAtStart : Item → Type 0
  HasNoneAtStart series = NoneStandsAtStart view.items.now.items view.items.now.uid series.todo.start

-- what a view knows of its UID follows from its kept items
pub record HasAll (view : UidView) : Type 0 where
  pub whole : HasWhole view
  pub between : HasBetween view
  pub places : HasPlaces view

-- the view of these kept items of a UID in a window
pub record IsViewOf (part : UidPart) (window : Window) (view : UidView) : Type 0 where
  pub items_are : view.items.now ≡ part
  pub window_is : view.window ≡ window
  pub found : HasAll view
