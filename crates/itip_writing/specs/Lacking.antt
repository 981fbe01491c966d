-- The properties that RFC 5546 3.4 requires in a message and that are missing.
use Rattle.std.specs.Prelude.{◌≡◌, ℕ, Bool, false, cond, ◌==◌, List, [], ◌∷◌, length, Option, Some, None}
use Rattle.std.specs.Option.{is_none}
use Rattle.std.specs.List.{filter, list_any}
use Rattle.itip_items.specs.declared.item.Item.{Item}
use Rattle.itip_report.specs.Resending.{AreResent}
use Rattle.itip_todo.specs.Parts.{Parts}
use Rattle.itip_todo.specs.PartsOf.{parts_of}
use Rattle.itip_todo.specs.Properties.{Property}
use Rattle.itip_todo.specs.declared.property_name.PropertyName.{PropertyName}
use Rattle.itip_todo.specs.declared.property_name.PropertyName.TheVariants as name
use Rattle.itip_todo.specs.declared.todo.Todo.{Todo}

-- ORGANIZER if there is none: REPLY and CANCEL require it (RFC 5546 3.4.3 and 3.4.5), and for REFRESH we want it as for an event (3.2.6)
abbrev pub lacking_organizer : Option Property → List PropertyName
lacking_organizer None = name.Organizer ∷ []
lacking_organizer (Some organizer) = []

-- what a REQUEST requires in each to-do besides what is always written (RFC 5546 3.4.2), in canonical order
abbrev pub wanted_in_request : List PropertyName
wanted_in_request = name.DtStart ∷ name.Priority ∷ name.Summary ∷ name.Organizer ∷ name.Attendee ∷ []

-- a to-do lacks a property that a REQUEST requires
abbrev pub lacks : PropertyName → Parts → Bool
lacks name.DtStart parts = is_none parts.start
lacks name.Priority parts = is_none parts.priority
lacks name.Summary parts = is_none parts.summary
lacks name.Organizer parts = is_none parts.organizer
lacks name.Attendee parts = length parts.attendees == 0
lacks p parts = false

-- the properties that a REQUEST requires and some to-do of the draft lacks, each once, in canonical order
abbrev pub lacking_in_request : List Todo → List PropertyName
lacking_in_request draft = filter (λ p. list_any (λ (todo : Todo). lacks p (parts_of todo)) draft) wanted_in_request

-- ORGANIZER if the to-do of one of these items has none
abbrev pub lacking_of_items : List Item → List PropertyName
lacking_of_items items = cond (list_any (λ (item : Item). is_none item.todo.organizer) items) (name.Organizer ∷ []) []

-- What messages that are sent again lack. They are checked for ORGANIZER only (our own rule; a REQUEST requires more, RFC 5546 3.4.2).
pub record IsResendLacking (heard : List Item) (uid : List ℕ) (lacking : List PropertyName) : Type 0 where
  pub series : Item
  pub overrides : List Item
  pub resent : AreResent heard uid series overrides
  pub lacking_is : lacking ≡ lacking_of_items (series ∷ overrides)
