use Rattle.std.proofs.Common.{◌∙◌, sym}
use Rattle.itip_join.specs.KeyByKey.{entries_from_values}
use Rattle.itip_join.proofs.Walk.{walk_next, walk_found, walk_step, walk_end}
use Rattle.itip_join.proofs.Puts.{put_here, put_apart}
use Rattle.itip_join.proofs.merge.copy_map.Goals as goal

pub loop-key-preserved : goal.loop-key-preserved
loop-key-preserved g c =
    let w = walk_next g.met.K.Ord.total g.met.K.Exact.exact c.in-Some.ensures.steps c.loop-key.invariant.walk in
    record {
      ordered = c.insert.ensures.ordered;
      walk = walk_step g.met.K.Ord.total g.met.K.Exact.exact w _ _
          (put_here g.met.K.Ord.total _ _ _ c.in_ok-insert.ensures.updates.0 c.in_ok-copy.ensures c.in_ok-copy-2.ensures ∙
          sym (walk_found g.met.K.Ord.total g.met.K.Exact.exact w))
          (λ q e p. put_apart g.met.K.Ord.total _ _ _ c.in_ok-insert.ensures.updates.0 c.in_ok-copy.ensures q e ∙ p)
          (λ q e u. u);
    }

pub loop-key-preserved-in_ok-insert : goal.loop-key-preserved-in_ok-insert
loop-key-preserved-in_ok-insert g c =
    let w = walk_next g.met.K.Ord.total g.met.K.Exact.exact c.in-Some.ensures.steps c.loop-key.invariant.walk in
    record {
      ordered = c.insert.ensures.ordered;
      walk = walk_step g.met.K.Ord.total g.met.K.Exact.exact w _ _
          (put_here g.met.K.Ord.total _ _ _ c.in_ok-insert.ensures.updates.0 c.in_ok-copy.ensures c.in_ok-copy-2.ensures ∙
          sym (walk_found g.met.K.Ord.total g.met.K.Exact.exact w))
          (λ q e p. put_apart g.met.K.Ord.total _ _ _ c.in_ok-insert.ensures.updates.0 c.in_ok-copy.ensures q e ∙ p)
          (λ q e u. u);
    }

pub returns : goal.returns
returns g c = entries_from_values g.met.K.Ord.total g.met.K.Exact.exact c.loop-key.copy.entries c.args.map.now.entries
    c.loop-key.invariant.ordered c.into_iter-key-iterator.ensures.into_iter_gives.5
    (walk_end g.met.K.Ord.total g.met.K.Exact.exact c.in-None.ensures.steps.0 c.loop-key.invariant.walk)
