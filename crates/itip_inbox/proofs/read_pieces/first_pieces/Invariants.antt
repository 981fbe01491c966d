use Rattle.std.proofs.Common.{◌≡◌}
use Rattle.itip_inbox.proofs.read_pieces.first_pieces.Given as goal

abbrev pub invariant-loop-piece : goal.invariant-loop-piece
invariant-loop-piece l = l.count ≡ l.piece-index
