use Rattle.std.proofs.Common.{sym, subst, List, ◌++◌}
use Rattle.std.specs.Option.{option_copied}
use Rattle.std.proofs.lemmas.Result.{IfOk-at_ok}
use Rattle.itip_inbox.specs.Pieces.{AreRead}
use Rattle.itip_inbox.specs.declared.source_pieces.Piece.{Piece}
use Rattle.itip_inbox.specs.declared.read_pieces.ReadPiece.{ReadPiece}
use Rattle.itip_inbox.proofs.SourcePieces.{read_both}
use Rattle.itip_inbox.proofs.read_pieces.+apart.Goals as goal

pub returns-clause-each : goal.returns-clause-each
returns-clause-each g t c =
    let front : List Piece = c.split_at.result.0.now in
    let back : List Piece = c.split_at.result.1.now in
    subst (λ (ps : List Piece). AreRead (option_copied c.args.about) c.args.kept.now ps c.append.new.self.items)
    (sym c.split_at.ensures.by_index.0)
    (subst (λ (read : List ReadPiece). AreRead (option_copied c.args.about) c.args.kept.now (front ++ back) read)
    (sym c.in_ok-append.ensures.items)
    (read_both (option_copied c.args.about) c.args.kept.now front back _ _
    (IfOk-at_ok (λ read. AreRead (option_copied c.args.about) c.args.kept.now front read.items) c.in_ok-read.was
    c.join-ours.ensures.first.0)
    (IfOk-at_ok (λ read. AreRead (option_copied c.args.about) c.args.kept.now back read.items) c.in_ok-behind.was
    c.join-ours.ensures.second.0)))
