use Rattle.std.proofs.Common.{take}
use Rattle.std.specs.Option.{option_copied}
use Rattle.itip_inbox.specs.Pieces.{AreRead}
use Rattle.itip_inbox.proofs.read_pieces.read_each.Given as goal

abbrev pub invariant-loop-piece : goal.invariant-loop-piece
invariant-loop-piece l = AreRead (option_copied l.about) l.kept (take l.piece-index l.pieces) l.read.items
