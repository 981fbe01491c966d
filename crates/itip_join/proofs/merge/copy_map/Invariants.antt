use Rattle.std.proofs.Common.{◌≡◌}
use Rattle.std.specs.BTreeMap.{get, IsOrdered}
use Rattle.itip_join.proofs.Walk.{IsWalk}
use Rattle.itip_join.proofs.merge.copy_map.Given as goal

abbrev pub invariant-loop-key : goal.invariant-loop-key
invariant-loop-key g l = record {
  ordered : IsOrdered g.K.Ord.cmp l.copy;
  walk : IsWalk g.K.Ord.cmp (get g.K.Ord.cmp l.map) (λ q. get g.K.Ord.cmp l.copy q ≡ get g.K.Ord.cmp l.map q) (λ q. Unit {0})
      l.key-iterator;
}
