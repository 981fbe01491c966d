use Rattle.std.proofs.Common.{◌∙◌, ap, refl, subst, sym, List, false}
use Rattle.itip_inbox.specs.Pieces.{pieces_from}
use Rattle.itip_inbox.specs.declared.source_pieces.Piece.{Piece}
use Rattle.itip_inbox.proofs.SourcePieces.{CutSoFar, cut_none, cut_more, cut_last}
use Rattle.itip_inbox.proofs.source_pieces.cut_source.Goals as goal

pub loop-front-init : goal.loop-front-init
loop-front-init c = cut_none c.args.pieces.now.items c.args.source c.args.octets.now

pub loop-front-preserved : goal.loop-front-preserved
loop-front-preserved c =
    subst (λ (ps : List Piece). CutSoFar c.args.pieces.now.items ps c.args.source c.args.octets.now c.in-Some.back.now false)
    (sym c.in_ok-push.ensures.items)
    (cut_more c.args.pieces.now.items c.loop-front.pieces.items c.args.source c.args.octets.now c.loop-front.rest.now c.loop-front.is_first
    c.loop-front.invariant (record { source = c.args.source; is_first = c.loop-front.is_first; octets = c.in-Some.front }) refl refl
    c.in-Some.back.now c.in-Some.ensures.parts)

pub returns : goal.returns
returns c =
    ap (λ (ps : List Piece). pieces_from 0 ps) c.in_ok-push-2.ensures.items ∙
    cut_last c.args.pieces.now.items c.loop-front.pieces.items c.args.source c.args.octets.now c.loop-front.rest.now c.loop-front.is_first
    c.loop-front.invariant (record { source = c.args.source; is_first = c.loop-front.is_first; octets = c.loop-front.rest }) refl refl refl
