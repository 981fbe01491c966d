use Rattle.std.proofs.Common.{refl}
use Rattle.itip_inbox.proofs.SourcePieces.{begins, goes_on}
use Rattle.itip_inbox.proofs.read_pieces.add_piece.Goals as goal

pub returns-then-is_first-clause-tells : goal.returns-then-is_first-clause-tells
returns-then-is_first-clause-tells c = λ about kept before one is tells.
    begins about kept before one c.args.piece is c.args.count c.args.piece.heard.count c.append.new.self c.if-is_first.true refl
    (c.in_ok-append.ensures.tells about kept before _ tells is.tells)

pub returns-clause-tells : goal.returns-clause-tells
returns-clause-tells c = λ about kept before one is tells.
    goes_on about kept before one c.args.piece is c.args.count c.in_ok-next.next c.append-2.new.self c.if-is_first.false
    c.in_ok-next.ensures.sum
    (c.in_ok-append-2.ensures.tells about kept before _ tells
    (c.in_ok-move_behind.ensures.tells about kept one.source 1 _ is.tells))
