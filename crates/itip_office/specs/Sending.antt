-- What a send says (our own form).
use Rattle.crossbeam_channel.specs.declared.err.SendError.{SendError}
use Rattle.crossbeam_channel.specs.declared.err.SendError.TheVariants as send

-- it says that the channel is closed, and not that memory was refused
abbrev pub IsClosed : {T : Type 0} → SendError T → Type 0
IsClosed (send.Disconnected message) = Unit {0}
IsClosed (send.OutOfMemory message) = ⊥
