-- A message to send, given what some inputs tell (RFC 5546 3.4).
use Rattle.std.specs.Prelude.{◌≡◌, ◌≢◌, ℕ, Bool, List, Option}
use Rattle.std.specs.Io.KnownBytes.{Keeps}
use Rattle.itip_items.specs.declared.item.Item.{Item}
use Rattle.itip_moment.specs.declared.stamp.Stamp.{Stamp}
use Rattle.itip_streams.specs.Written.{WritesOutput}
use Rattle.itip_todo.specs.declared.property_name.PropertyName.{PropertyName}
use Rattle.itip_writing.specs.Errands.{IsWritten, CannotBeWritten, LacksOf}
use Rattle.itip_writing.specs.declared.errand.Errand.{Errand}
use Rattle.itip_writing.specs.declared.error.WritingError.{WritingError}
use Rattle.itip_writing.specs.declared.error.WritingError.TheVariants.{NoMemory}
use Rattle.itip_inbox.specs.Inbox.{IsInbox, is_some_refused}
use Rattle.itip_inbox.specs.declared.refused.RefusedMessage.{RefusedMessage}
use Rattle.itip_inbox.specs.declared.sent.Sent.{Sent}
use Rattle.itip_inbox.specs.declared.sent.Sent.TheVariants.{Done, Undone}

-- The message that is asked for, written at a moment given all that some inputs tell, and whether a message of theirs is refused.
pub record IsMessage (errand : Errand) (at : Stamp) (inputs : List (List ℕ)) (octets : List ℕ) (refused : Bool) : Type 0 where
  pub heard : List Item
  pub refusals : List RefusedMessage
  pub inbox : IsInbox inputs heard refusals
  pub written : IsWritten errand heard at octets
  pub refused_is : refused ≡ is_some_refused refusals

-- what RFC 5546 3.4 wants in it and it lacks
pub record Lacks (errand : Errand) (inputs : List (List ℕ)) (lacking : List PropertyName) : Type 0 where
  pub heard : List Item
  pub refusals : List RefusedMessage
  pub inbox : IsInbox inputs heard refusals
  pub lacks : LacksOf errand heard lacking

-- why it can't be written given all that some inputs tell; never for lack of memory
pub record CannotBeSent (errand : Errand) (at : Stamp) (inputs : List (List ℕ)) (cause : WritingError) : Type 0 where
  pub heard : List Item
  pub refusals : List RefusedMessage
  pub inbox : IsInbox inputs heard refusals
  pub why : CannotBeWritten errand heard at cause
  pub not_memory : cause ≢ NoMemory

-- What came of it: the message was written; or nothing was, and there is a cause.
abbrev pub Sends : Errand → Stamp → List (List ℕ) → Option (List ℕ) → Option (List ℕ) → Sent → Type 0
Sends errand at inputs old new (Done refused lacking) =
    WritesOutput (IsMessage errand at inputs) old new refused × Lacks errand inputs lacking.items
Sends errand at inputs old new (Undone cause) = CannotBeSent errand at inputs cause × Keeps old new
