-- The explanation of a UID over some inputs (our own format).
use Rattle.std.specs.Prelude.{◌≡◌, ℕ, Bool, List, Option, Some}
use Rattle.std.specs.Io.KnownBytes.{Keeps}
use Rattle.itip_explain.specs.Explanation.{IsExplanation}
use Rattle.itip_explain.specs.declared.told.ToldItem.{ToldItem}
use Rattle.itip_items.specs.KeyParts.{uid_of}
use Rattle.itip_items.specs.declared.item.Item.{Item}
use Rattle.itip_streams.specs.Written.{WritesOutput}
use Rattle.itip_streams.specs.declared.source_name.SourceName.{SourceName}
use Rattle.itip_inbox.specs.Compaction.{TellsItem}
use Rattle.itip_inbox.specs.Following.{TellAbout}
use Rattle.itip_inbox.specs.Inbox.{IsInbox, is_some_refused}
use Rattle.itip_inbox.specs.declared.explained.Explained.{Explained}
use Rattle.itip_inbox.specs.declared.explained.Explained.TheVariants.{Told, Unknown}
use Rattle.itip_inbox.specs.declared.refused.RefusedMessage.{RefusedMessage}

-- an item of a UID that some inputs tell
pub record TellsOf (uid : List ℕ) (inputs : List (List ℕ)) : Type 0 where
  pub item : Item
  pub tells : TellsItem inputs item
  pub about : uid_of item.key ≡ uid

-- The explanation of what all messages of some inputs tell of a UID, and whether a message is refused.
pub record IsExplained (uid : List ℕ) (names : List SourceName) (inputs : List (List ℕ)) (text : List ℕ) (refused : Bool) : Type 0 where
  pub told : List ToldItem
  pub tell : TellAbout (Some uid) inputs told
  pub explains : IsExplanation uid told names text
  pub heard : List Item
  pub refusals : List RefusedMessage
  pub inbox : IsInbox inputs heard refusals
  pub refused_is : refused ≡ is_some_refused refusals

-- What came of it: the explanation was written; or nothing was, as no message tells an item of the UID.
abbrev pub Explains : List ℕ → List SourceName → List (List ℕ) → Option (List ℕ) → Option (List ℕ) → Explained → Type 0
Explains uid names inputs old new (Told refused) = TellsOf uid inputs × WritesOutput (IsExplained uid names inputs) old new refused
Explains uid names inputs old new Unknown = (¬ TellsOf uid inputs) × Keeps old new
