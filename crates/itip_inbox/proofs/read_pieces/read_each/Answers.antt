use Rattle.std.proofs.Common.{◌≡◌, ◌+◌, ◌<◌, sym, refl, subst, ℕ, List, [], ◌∷◌, ◌++◌, length, take, get_or, Option}
use Rattle.std.specs.Option.{option_copied}
use Rattle.std.proofs.lemmas.List.{take_more, take_all}
use Rattle.itip_items.specs.declared.item.Item.{Item}
use Rattle.itip_inbox.specs.Inbox.{placed_from}
use Rattle.itip_inbox.specs.Pieces.{AreRead, texts_of}
use Rattle.itip_inbox.specs.Streaming.{Tells}
use Rattle.itip_inbox.specs.declared.source_pieces.Piece.{Piece}
use Rattle.itip_inbox.specs.declared.read_pieces.ReadPiece.{ReadPiece}
use Rattle.itip_inbox.specs.declared.texts.Heard.{Heard}
use Rattle.itip_inbox.proofs.SourcePieces.{read_both}
use Rattle.itip_inbox.proofs.read_pieces.read_each.Goals as goal

-- one piece more is read
each_more : (about : Option (List ℕ)) (kept : List Item) (pieces : List Piece) (at : ℕ) (d : Piece) (read new : List ReadPiece)
    (heard : Heard) → at < length pieces →
    new ≡ read ++ (record { is_first = (get_or pieces at d).is_first; heard = heard }) ∷ [] → AreRead about kept (take at pieces) read →
    Tells about kept (placed_from (get_or pieces at d).source 1 (texts_of (get_or pieces at d))) heard →
    AreRead about kept (take (at + 1) pieces) new
each_more about kept pieces at d read new heard below is so_far tells =
    let piece : Piece = get_or pieces at d in
    subst (λ (ps : List Piece). AreRead about kept ps new) (sym (take_more pieces at d below))
    (subst (λ (rs : List ReadPiece). AreRead about kept (take at pieces ++ piece ∷ []) rs) (sym is)
    (read_both about kept (take at pieces) (piece ∷ []) read ((record { is_first = piece.is_first; heard = heard }) ∷ []) so_far
    (record { first = refl; tells = tells }, tt)))

pub loop-piece-init : goal.loop-piece-init
loop-piece-init c =
    subst (λ (read : List ReadPiece). AreRead (option_copied c.args.about) c.args.kept.now [] read) (sym c.new-read.ensures.items) tt

pub loop-piece-preserved : goal.loop-piece-preserved
loop-piece-preserved c =
    each_more (option_copied c.args.about) c.args.kept.now c.args.pieces.now c.loop-piece.piece-index _ c.loop-piece.read.items
    c.push.new.self.items c.in_ok-heard.heard c.loop-piece-test.true c.in_ok-push.ensures.items c.loop-piece.invariant
    c.in_ok-heard.ensures.tells

pub returns-clause-each : goal.returns-clause-each
returns-clause-each c =
    subst (λ (ps : List Piece). AreRead (option_copied c.args.about) c.args.kept.now ps c.loop-piece.read.items)
    (take_all c.loop-piece.piece-index c.args.pieces.now c.loop-piece-test.false) c.loop-piece.invariant
