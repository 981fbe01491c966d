use Rattle.std.proofs.Common.{◌∙◌, ap, subst, List}
use Rattle.std.specs.Option.{option_copied}
use Rattle.std.proofs.lemmas.Result.{IfOk-weaker}
use Rattle.itip_inbox.specs.Inbox.{Placed}
use Rattle.itip_inbox.specs.Pieces.{pieces_from}
use Rattle.itip_inbox.specs.Streaming.{Tells}
use Rattle.itip_inbox.specs.declared.source_pieces.Piece.{Piece}
use Rattle.itip_inbox.proofs.waiting.read_waiting.Goals as goal

pub returns-clause-tells : goal.returns-clause-tells
returns-clause-tells g c =
    IfOk-weaker c.read_pieces.result _ _ (λ heard tells.
    subst (λ (ms : List Placed). Tells (option_copied c.args.about) c.args.kept.now ms heard)
    (ap (λ (ps : List Piece). pieces_from 0 ps) c.as_slice.ensures.value ∙ c.in_ok-pieces.ensures) tells) c.read_pieces.ensures.tells
