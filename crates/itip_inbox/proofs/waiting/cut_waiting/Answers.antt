use Rattle.std.proofs.Common.{◌≡◌, ◌∙◌, ◌+◌, sym, ap, ℕ, List, [], ◌∷◌, ◌++◌, take}
use Rattle.std.proofs.lemmas.List.{take_more, take_all}
use Rattle.itip_message.specs.Scanned.{messages_of}
use Rattle.itip_inbox.specs.Inbox.{Placed, placed_from}
use Rattle.itip_inbox.specs.Pieces.{pieces_from}
use Rattle.itip_inbox.specs.Streaming.{waiting_of}
use Rattle.itip_inbox.specs.declared.source_pieces.Piece.{Piece}
use Rattle.itip_inbox.specs.declared.waiting.Waiting.{Waiting}
use Rattle.itip_inbox.proofs.Hearing.{waiting_push}
use Rattle.itip_inbox.proofs.waiting.cut_waiting.Goals as goal

pub loop-one-init : goal.loop-one-init
loop-one-init c = ap (λ (ps : List Piece). pieces_from 0 ps) c.new-pieces.ensures.items

pub loop-one-preserved : goal.loop-one-preserved
loop-one-preserved c =
    let at : ℕ = c.loop-one.one-index in
    let one : Waiting = c.one-item.result in
    let is : take (at + 1) c.args.waiting.now ≡ take at c.args.waiting.now ++ one ∷ [] =
    take_more c.args.waiting.now at one c.loop-one-test.true ∙
    ap (λ (w : Waiting). take at c.args.waiting.now ++ w ∷ []) (sym c.one-item.is) in
    c.in_ok-cut_source.ensures ∙
    ap (λ (ms : List Placed). ms ++ placed_from one.source 1 (messages_of c.as_slice.result.now)) c.loop-one.invariant ∙
    ap (λ (octets : List ℕ). waiting_of (take at c.args.waiting.now) ++ placed_from one.source 1 (messages_of octets))
    c.as_slice.ensures.value ∙
    sym (ap waiting_of is ∙ waiting_push (take at c.args.waiting.now) one)

pub returns : goal.returns
returns c = c.loop-one.invariant ∙ ap waiting_of (take_all c.loop-one.one-index c.args.waiting.now c.loop-one-test.false)
