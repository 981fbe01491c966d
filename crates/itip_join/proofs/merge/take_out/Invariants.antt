use Rattle.std.proofs.Common.{◌≡◌, drop, cond}
use Rattle.std.proofs.Common.{map as each}
use Rattle.std.specs.Prelude.{None}
use Rattle.std.specs.BTreeMap.{get, IsOrdered}
use Rattle.itip_join.specs.Changes.{is_listed}
use Rattle.itip_join.proofs.merge.take_out.Given as goal

abbrev pub invariant-loop-key : goal.invariant-loop-key
invariant-loop-key g l = record {
  ordered : IsOrdered g.K.Ord.cmp l.map;
  rest : (q : g.row.K.Denot) → cond (is_listed g.K.Ord.cmp q (each (λ t. t.now) (drop l.key-index l.keys))) None (get g.K.Ord.cmp l.map q)
      ≡ cond (is_listed g.K.Ord.cmp q (each (λ t. t.now) l.keys)) None (get g.K.Ord.cmp l.initial.map q);
}
