-- How the to-dos that cancel an instance and all after it are put together (our own form).
use Rattle.std.specs.Prelude.{ℕ, Bool, true, false, cond, List, [], ◌∷◌, ◌++◌, map, Option, Some, None}
use Rattle.itip_moment.specs.declared.moment.Moment.{Moment}
use Rattle.itip_moment.specs.declared.stamp.Stamp.{Stamp}
use Rattle.itip_todo.specs.Parts.{Parts}
use Rattle.itip_items.specs.KeyParts.{instance_of}
use Rattle.itip_items.specs.declared.item.Item.{Item}
use Rattle.itip_items.specs.declared.key.Key.{Key}
use Rattle.itip_items.specs.declared.key.Key.TheVariants.{Series, Instance, Range, Answer, Refresh}
use Rattle.itip_view.specs.Standing.{IsLive}
use Rattle.itip_report.specs.Reports.{IsStanding}
use Rattle.itip_writing.specs.Cancelling.{IsAfter, cancelled}

-- the key is that of an instance alone
abbrev pub names_instance : Key → Bool
names_instance (Series uid) = false
names_instance (Instance uid id) = true
names_instance (Range uid id) = false
names_instance (Answer uid id attendee) = false
names_instance (Refresh uid id attendee) = false

-- the key is that of an instance and all after it
abbrev pub names_range : Key → Bool
names_range (Series uid) = false
names_range (Instance uid id) = false
names_range (Range uid id) = true
names_range (Answer uid id attendee) = false
names_range (Refresh uid id attendee) = false

-- the moment of an instance key, or the first of a range key
abbrev pub override_of : Key → Option Moment
override_of (Series uid) = None
override_of (Instance uid id) = Some id
override_of (Range uid id) = Some id
override_of (Answer uid id attendee) = None
override_of (Refresh uid id attendee) = None

-- a live instance or range item that stands after a moment
pub record EndsLater (heard : List Item) (uid : List ℕ) (from : Moment) (item : Item) : Type 0 where
  pub standing : IsStanding heard uid item
  pub live : IsLive item
  pub after : IsAfter from standing.id

-- the to-do that cancels the instance at the moment, if the item is that of an instance
abbrev pub instance_ending : List ℕ → Item → Moment → ℕ → Stamp → List Parts
instance_ending uid item from sequence stamp = cond (names_instance item.key) (cancelled uid item (Some from) false sequence stamp ∷ []) []

-- that one, and the to-do that cancels all from the moment on
abbrev pub first_endings : List ℕ → Item → Moment → ℕ → Stamp → List Parts
first_endings uid item from sequence stamp =
    instance_ending uid item from sequence stamp ++ cancelled uid item (Some from) true sequence stamp ∷ []

-- the to-do that cancels the instance or range of an item
abbrev pub ending_of : List ℕ → ℕ → Stamp → Item → Parts
ending_of uid sequence stamp item = cancelled uid item (instance_of item.key) (names_range item.key) sequence stamp

-- the to-dos for the moment, and those for the later items
abbrev pub endings_of : List ℕ → Item → Moment → ℕ → Stamp → List Item → List Parts
endings_of uid item from sequence stamp later =
    first_endings uid item from sequence stamp ++ map (ending_of uid sequence stamp) later
