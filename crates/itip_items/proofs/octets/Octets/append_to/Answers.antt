use Rattle.std.proofs.Common.{◌≡◌, ◌∙◌, ap, sym, ◌++◌, ℕ, List, length, take, append_assoc, arith}
use Rattle.std.proofs.Math.Seq.{take-append_seam}
use Rattle.itip_items.proofs.octets.Octets.append_to.Goals as goal

pub returns-in-Ok-clause-ok : goal.returns-in-Ok-clause-ok
returns-in-Ok-clause-ok c =
    c.in-Ok.ensures.items ∙ ap (λ (mid : List ℕ). mid ++ c.pieces.result.1.now) c.in_ok-extend_from_slice.ensures.items ∙
    append_assoc c.args.out.now.items c.pieces.result.0.now c.pieces.result.1.now ∙
    ap (λ (octets : List ℕ). c.args.out.now.items ++ octets) (sym c.pieces.ensures)

pub returns-in-Err-clause-err : goal.returns-in-Err-clause-err
returns-in-Err-clause-err c =
    let before : c.len-before.result ≡ length c.args.out.now.items = omega (arith, c.len-before.ensures) in
    c.truncate.ensures.items ∙ ap (take c.len-before.result) (c.in-Err.ensures.items ∙ c.in_ok-extend_from_slice.ensures.items) ∙
    ap (λ (n : ℕ). take n (c.args.out.now.items ++ c.pieces.result.0.now)) before ∙
    take-append_seam c.args.out.now.items c.pieces.result.0.now
