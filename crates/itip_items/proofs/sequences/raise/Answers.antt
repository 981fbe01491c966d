use Rattle.std.proofs.Common.{◌≡◌, ◌∙◌, sym, ap, ℕ, List, subst, cond}
use Rattle.std.specs.Prelude.{max, nat_eq, unwrap_or}
use Rattle.std.specs.BTreeMap.{get}
use Rattle.std.specs.Cmp.Lexicographic.{pointwise, slice_cmp}
use Rattle.std.specs.Ordering.{nat_cmp}
use Rattle.itip_items.proofs.SeriesSequences.{raised}
use Rattle.itip_items.proofs.sequences.raise.Goals as goal

pub returns : goal.returns
returns c = λ uid.
    let old = λ (u : List ℕ). get (slice_cmp nat_cmp) c.args.greatest.now u in
    let new = λ (u : List ℕ). get (slice_cmp nat_cmp) c.insert.new.self u in
    let k = c.in_ok-clone.field-0 in
    let same : k ≡ c.args.todo.now.uid = c.in_ok-clone.ensures.cases in
    let value : c.max-seq.result ≡ max (unwrap_or (old k) 0) c.args.todo.now.seq =
    c.max-seq.ensures ∙ ap (λ (n : ℕ). max n c.args.todo.now.seq) c.sequence_in.ensures ∙
    ap (λ (u : List ℕ). max (unwrap_or (old u) 0) c.args.todo.now.seq) (sym same) in
    subst (λ (u : List ℕ). unwrap_or (new uid) 0 ≡ max (unwrap_or (old uid) 0) (cond (pointwise nat_eq u uid) c.args.todo.now.seq 0)) same
    (raised old new k uid c.max-seq.result c.args.todo.now.seq value (c.in_ok-insert.ensures.updates.0 uid))
