use Rattle.std.proofs.Common.{◌∙◌, sym, refl}
use Rattle.std.specs.BTreeMap.{get}
use Rattle.itip_join.proofs.Walk.{walk_end}
use Rattle.itip_join.proofs.Steps.{step_dead, step_alive}
use Rattle.itip_join.proofs.merge.is_below.Goals as goal

pub loop-key-preserved-then-kills : goal.loop-key-preserved-then-kills
loop-key-preserved-then-kills g c = step_dead g.met.K.Ord.total g.met.K.Exact.exact g.V.Join.le (g.S.Guard.is_dead c.args.guard.now)
    (get g.K.Ord.cmp c.args.map.now) (get g.K.Ord.cmp c.args.other.now) c.in-Some.ensures.steps c.loop-key.invariant (sym c.kills.ensures ∙
    c.if-kills.true)

pub loop-key-preserved : goal.loop-key-preserved
loop-key-preserved g c = step_alive g.met.K.Ord.total g.met.K.Exact.exact g.V.Join.le (g.S.Guard.is_dead c.args.guard.now)
    (get g.K.Ord.cmp c.args.map.now) (get g.K.Ord.cmp c.args.other.now) c.in-Some.ensures.steps c.loop-key.invariant
    c.in-Some-get.theirs.now (sym c.in-Some-get.ensures.value) (c.below.ensures.0 c.if-not-below.false)

pub returns : goal.returns
returns g c = (λ t. walk_end g.met.K.Ord.total g.met.K.Exact.exact c.in-None.ensures.steps.0 c.loop-key.invariant, λ p. refl)
