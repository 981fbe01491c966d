use Rattle.std.proofs.Common.{ℕ, List, Option}
use Rattle.std.specs.Vec.Iter.{into_iter_items}
use Rattle.itip_items.specs.declared.item.Item.{Item}
use Rattle.itip_inbox.specs.Pieces.{AreRead}
use Rattle.itip_inbox.specs.declared.source_pieces.Piece.{Piece}
use Rattle.itip_inbox.proofs.SourcePieces.{InARow}
use Rattle.itip_inbox.proofs.read_pieces.in_a_row.Given as goal

abbrev pub invariant-loop-piece : goal.invariant-loop-piece
invariant-loop-piece l = (about : Option (List ℕ)) (kept : List Item) (pieces : List Piece) → AreRead about kept pieces l.fn.read.items →
    InARow about kept pieces (into_iter_items l.piece-iterator) l.count l.all
