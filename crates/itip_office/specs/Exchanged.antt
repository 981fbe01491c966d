-- What desks give and take at the end (our own form).
use Rattle.std.specs.Prelude.{◌≢◌, ℕ, List, ◌++◌, Result, Ok, Err}
use Rattle.itip_items.specs.declared.item.Item.{Item}
use Rattle.itip_desk.specs.Desk.{Shown, IsDeskOf, IsDeltaOf}
use Rattle.itip_office.specs.declared.error.OfficeError.{OfficeError}
use Rattle.itip_office.specs.declared.error.OfficeError.TheVariants.{GateClosed, ChannelClosed}

-- neither of the two errors that only loops return
abbrev pub AreNoLoops : OfficeError → Type 0
AreNoLoops error = (error ≢ GateClosed) × (error ≢ ChannelClosed)

-- the delta of a desk since tick 0, or an error
abbrev pub GivesDelta : Shown → Result (List Item) OfficeError → Type 0
GivesDelta desk (Ok delta) = IsDeltaOf desk 0 delta
GivesDelta desk (Err error) = AreNoLoops error

-- the desk after all these batches, or an error
abbrev pub TakesAll : List (List Item) → Shown → Result Shown OfficeError → Type 0
TakesAll batches old (Ok new) = (steps : List (List Item)) (start : ℕ) → IsDeskOf steps start old → IsDeskOf (steps ++ batches) start new
TakesAll batches old (Err error) = AreNoLoops error
