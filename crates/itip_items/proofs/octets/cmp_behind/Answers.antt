use Rattle.std.proofs.Common.{◌≡◌, ◌∙◌, ap, sym, ◌++◌, ℕ, List, length, arith}
use Rattle.std.specs.Ordering.{nat_cmp, ordering_then}
use Rattle.std.specs.Cmp.Lexicographic.{slice_cmp}
use Rattle.std.specs.declared.cmp.Ordering.{Ordering}
use Rattle.itip_items.proofs.OctetPieces.{longer_piece, both_pieces, pieces_of}
use Rattle.itip_items.proofs.octets.cmp_behind.Goals as goal

pub returns-then-octets-front : goal.returns-then-octets-front
returns-then-octets-front c =
    c.cmp.ensures ∙ sym (longer_piece c.args.octets.now c.args.front.now c.args.own.now (omega arith))

pub returns : goal.returns
returns c =
    let same : List ℕ = c.split_at.result.0.now in
    let more : List ℕ = c.split_at.result.1.now in
    let whole : c.args.octets.now ≡ same ++ more =
    pieces_of (length c.args.front.now) c.args.octets.now same more c.split_at.ensures.front c.split_at.ensures.back in
    c.then.ensures ∙ ap (λ (o : Ordering). ordering_then o c.cmp-rest.result) c.cmp-2.ensures ∙
    ap (λ (o : Ordering). ordering_then (slice_cmp nat_cmp same c.args.front.now) o) c.cmp-rest.ensures ∙
    sym (both_pieces same more c.args.front.now c.args.own.now c.split_at.ensures.front_len) ∙
    ap (λ (list : List ℕ). slice_cmp nat_cmp list (c.args.front.now ++ c.args.own.now)) (sym whole)
