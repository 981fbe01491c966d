use Rattle.std.proofs.Common.{◌≡◌, sym, subst, List, [], arith}
use Rattle.std.proofs.lemmas.List.{nil_from_length}
use Rattle.std.specs.Vec.Iter.{into_iter_items}
use Rattle.itip_inbox.specs.Pieces.{AreRead}
use Rattle.itip_inbox.specs.declared.read_pieces.ReadPiece.{ReadPiece}
use Rattle.itip_inbox.proofs.SourcePieces.{InARow, row_begins, row_more, row_ends}
use Rattle.itip_inbox.proofs.read_pieces.in_a_row.Goals as goal

pub loop-piece-init : goal.loop-piece-init
loop-piece-init c = λ about kept pieces are.
    row_begins about kept pieces (into_iter_items c.into_iter-piece-iterator.result) c.nothing-all.result
    (subst (λ (rest : List ReadPiece). AreRead about kept pieces rest) (sym c.into_iter-piece-iterator.ensures.into_iter_gives.0) are)
    (c.nothing-all.ensures about kept)

pub loop-piece-preserved : goal.loop-piece-preserved
loop-piece-preserved c = λ about kept pieces are.
    row_more about kept pieces c.in-Some.piece (into_iter_items c.next.new.self) c.loop-piece.count _ c.loop-piece.all _
    (subst (λ (rest : List ReadPiece). InARow about kept pieces rest c.loop-piece.count c.loop-piece.all) c.in-Some.ensures.steps.0
    (c.loop-piece.invariant about kept pieces are))
    (c.in_ok-count.ensures.tells about kept)

pub returns-clause-tells : goal.returns-clause-tells
returns-clause-tells c = λ about kept pieces are.
    let none : into_iter_items c.loop-piece.piece-iterator ≡ [] =
    nil_from_length _ (omega (arith, c.in-None.ensures.steps.0, c.loop-piece.piece-iterator.rest.ok.0)) in
    row_ends about kept pieces c.loop-piece.count c.loop-piece.all
    (subst (λ (rest : List ReadPiece). InARow about kept pieces rest c.loop-piece.count c.loop-piece.all) none
    (c.loop-piece.invariant about kept pieces are))
