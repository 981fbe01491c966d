use Rattle.std.proofs.Common.{◌==◌, sym, take_all, refl}
use Rattle.std.proofs.lemmas.List.Folds.{list_any_more}
use Rattle.std.proofs.lemmas.Nat.Bits.{bit_at-zero}
use Rattle.itip_recur.proofs.sets.set_of.Goals as goal

pub loop-one-init : goal.loop-one-init
loop-one-init g c n small = rw bit_at-zero

pub loop-one-preserved : goal.loop-one-preserved
loop-one-preserved g c n small =
    let more = list_any_more (λ one. n == g.T.Numbered.own one) c.args.list.now c.loop-one.one-index c.one-item.result
    c.loop-one-test.true in
    rw (more, ← c.one-item.is, c.with_number-set.ensures n small, c.loop-one.invariant n small, c.number.ensures) refl

pub returns : goal.returns
returns g c n small = rw (sym (take_all c.loop-one.one-index c.args.list.now c.loop-one-test.false)) (c.loop-one.invariant n small)
