use Rattle.std.proofs.Common.{◌≡◌, take}
use Rattle.itip_inbox.specs.Pieces.{pieces_from}
use Rattle.itip_inbox.specs.Streaming.{waiting_of}
use Rattle.itip_inbox.proofs.waiting.cut_waiting.Given as goal

abbrev pub invariant-loop-one : goal.invariant-loop-one
invariant-loop-one l = pieces_from 0 l.pieces.items ≡ waiting_of (take l.one-index l.waiting)
