use Rattle.std.proofs.Common.{◌≡◌, ◌∙◌, ap, sym, ◌++◌, ℕ, List, length}
use Rattle.std.specs.Ordering.{nat_cmp, ordering_then, ordering_reverse}
use Rattle.std.specs.Cmp.Lexicographic.{slice_cmp}
use Rattle.std.specs.declared.cmp.Ordering.{Ordering}
use Rattle.itip_items.proofs.OctetPieces.{first_longer, second_longer, pieces_of}
use Rattle.itip_items.proofs.octets.cmp_pieces.Goals as goal

pub returns-then-front-other_front : goal.returns-then-front-other_front
returns-then-front-other_front c =
    let front : List ℕ = c.args.front.now in
    let own : List ℕ = c.args.own.now in
    let same : List ℕ = c.split_at.result.0.now in
    let more : List ℕ = c.split_at.result.1.now in
    let other : List ℕ = c.args.other_own.now in
    let whole : c.args.other_front.now ≡ same ++ more =
    pieces_of (length c.args.front.now) c.args.other_front.now same more c.split_at.ensures.front c.split_at.ensures.back in
    c.then.ensures ∙ ap (λ (o : Ordering). ordering_then o c.cmp_behind-rest.result) c.cmp.ensures ∙
    ap (λ (o : Ordering). ordering_then (slice_cmp nat_cmp front same) o) c.cmp_behind-rest.ensures ∙
    sym (second_longer front own same more other c.split_at.ensures.front_len) ∙
    ap (λ (list : List ℕ). slice_cmp nat_cmp (front ++ own) (list ++ other)) (sym whole)

pub returns-else-front-other_front : goal.returns-else-front-other_front
returns-else-front-other_front c =
    let front : List ℕ = c.args.other_front.now in
    let own : List ℕ = c.args.own.now in
    let same : List ℕ = c.split_at-else-front-other_front.result.0.now in
    let more : List ℕ = c.split_at-else-front-other_front.result.1.now in
    let other : List ℕ = c.args.other_own.now in
    let whole : c.args.front.now ≡ same ++ more =
    pieces_of (length c.args.other_front.now) c.args.front.now same more c.split_at-else-front-other_front.ensures.front
    c.split_at-else-front-other_front.ensures.back in
    c.then-else-front-other_front.ensures ∙
    ap (λ (o : Ordering). ordering_then o c.reverse.result) c.cmp-else-front-other_front.ensures ∙
    ap (λ (o : Ordering). ordering_then (slice_cmp nat_cmp same front) o) (c.reverse.ensures ∙
    ap ordering_reverse c.cmp_behind-rest-else-front-other_front.ensures) ∙
    sym (first_longer same more own front other c.split_at-else-front-other_front.ensures.front_len) ∙
    ap (λ (list : List ℕ). slice_cmp nat_cmp (list ++ own) (front ++ other)) (sym whole)
