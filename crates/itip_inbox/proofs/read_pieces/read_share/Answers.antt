use Rattle.std.proofs.Common.{◌∙◌, ap, subst, List, ◌++◌}
use Rattle.std.specs.Option.{option_copied}
use Rattle.std.proofs.lemmas.Result.{IfOk-weaker}
use Rattle.itip_message.specs.Scanned.{messages_of}
use Rattle.itip_inbox.specs.Inbox.{Placed, placed_from}
use Rattle.itip_inbox.specs.Pieces.{pieces_from}
use Rattle.itip_inbox.specs.Streaming.{Tells}
use Rattle.itip_inbox.specs.declared.source_pieces.Piece.{Piece}
use Rattle.itip_inbox.proofs.read_pieces.read_share.Goals as goal

pub returns-clause-tells : goal.returns-clause-tells
returns-clause-tells g c =
    IfOk-weaker c.read_pieces.result _ _ (λ heard tells.
    subst (λ (ms : List Placed). Tells (option_copied c.args.about) c.args.kept.now ms heard)
    (ap (λ (ps : List Piece). pieces_from 0 ps) c.as_slice.ensures.value ∙ c.in_ok-cut_source.ensures ∙
    ap (λ (ps : List Piece). pieces_from 0 ps ++ placed_from c.args.source 1 (messages_of c.args.octets.now)) c.new-pieces.ensures.items)
    tells) c.read_pieces.ensures.tells
