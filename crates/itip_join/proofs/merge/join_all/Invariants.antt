use Rattle.std.specs.BTreeMap.{get, IsOrdered}
use Rattle.itip_join.specs.Changes.{TakesBack, keys_in, pairs_in}
use Rattle.itip_join.proofs.TakingBack.{IsMergeWalk}
use Rattle.itip_join.proofs.merge.join_all.Given as goal

abbrev pub invariant-loop-key : goal.invariant-loop-key
invariant-loop-key g l = record {
  ordered : IsOrdered g.K.Ord.cmp l.map;
  undo : TakesBack g.K.Ord.cmp (get g.K.Ord.cmp l.initial.map) (get g.K.Ord.cmp l.map) (keys_in l.undo) (pairs_in l.undo);
  walk : IsMergeWalk g.met.K.Ord.total g.met.K.Exact.exact g.V.Join.le (g.S.Guard.is_dead l.guard) (get g.K.Ord.cmp l.initial.map)
      (get g.K.Ord.cmp l.other) (get g.K.Ord.cmp l.map) l.key-iterator;
}
