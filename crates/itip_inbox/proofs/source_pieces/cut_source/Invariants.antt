use Rattle.std.proofs.Common.{length}
use Rattle.itip_inbox.proofs.SourcePieces.{CutSoFar}
use Rattle.itip_inbox.proofs.source_pieces.cut_source.Given as goal

abbrev pub invariant-loop-front : goal.invariant-loop-front
invariant-loop-front l = CutSoFar l.fn.pieces.items l.pieces.items l.source l.octets l.rest l.is_first

abbrev pub decreases-loop-front : goal.decreases-loop-front
decreases-loop-front l = length l.rest
