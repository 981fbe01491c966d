-- The batch of a job: that of a text has the items that its bytes read as, sorted by canonical bytes, each once (our own rule).
use Rattle.std.specs.Prelude.{◌<◌, ℕ, List}
use Rattle.itip_message.specs.Message.{ReadsMessage}
use Rattle.itip_items.specs.declared.item.Item.{Item}
use Rattle.itip_state.specs.Kept.{IsItemsOf}
use Rattle.itip_office.specs.declared.job.Work.{Work}
use Rattle.itip_office.specs.declared.job.Work.TheVariants.{Text, Carry, Look}

-- the bytes are a message, and the batch has its items
pub record IsBatchOf (bytes : List ℕ) (batch : List Item) : Type 0 where
  pub items : List Item
  pub reads : ReadsMessage bytes items
  pub is_items : IsItemsOf batch items

-- This batch may be merged for the job: for a text its own, for a carry any, and for a look none.
abbrev pub Merges : Work → List Item → Type 0
Merges (Text desk bytes) batch = IsBatchOf bytes batch
Merges (Carry from to) batch = Unit {0}
Merges (Look desk window) batch = ⊥

-- the desk that a job is for
abbrev pub desk_of : Work → ℕ
desk_of (Text desk bytes) = desk
desk_of (Carry from to) = to
desk_of (Look desk window) = desk

-- The desks that a job names are there.
abbrev pub AreThere : ℕ → Work → Type 0
AreThere desks (Text desk bytes) = desk < desks
AreThere desks (Carry from to) = (from < desks) × (to < desks)
AreThere desks (Look desk window) = desk < desks

abbrev pub IsText : Work → Type 0
IsText (Text desk bytes) = Unit {0}
IsText (Carry from to) = ⊥
IsText (Look desk window) = ⊥
