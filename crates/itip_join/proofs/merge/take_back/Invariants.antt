use Rattle.std.proofs.Common.{◌≡◌, true}
use Rattle.std.proofs.Common.{map as each}
use Rattle.std.specs.Prelude.{is_some}
use Rattle.std.specs.BTreeMap.{get, IsOrdered}
use Rattle.itip_join.specs.Changes.{before, has_key}
use Rattle.itip_join.proofs.merge.take_back.Given as goal

abbrev pub invariant-loop-key : goal.invariant-loop-key
invariant-loop-key g l = record {
  ordered : IsOrdered g.K.Ord.cmp l.map;
  there : (q : g.row.K.Denot) → has_key g.K.Ord.cmp q (each (λ p. (p.0.now, p.1)) l.raised.items) ≡ true →
      is_some (get g.K.Ord.cmp l.map q) ≡ true;
  rest : (q : g.row.K.Denot) → before g.K.Ord.cmp q (get g.K.Ord.cmp l.map q) (each (λ p. (p.0.now, p.1)) l.raised.items)
      ≡ before g.K.Ord.cmp q (get g.K.Ord.cmp l.initial.map q) (each (λ p. (p.0.now, p.1)) l.initial.raised.items);
}

abbrev pub decreases-loop-key : goal.decreases-loop-key
decreases-loop-key g l = goal.left-loop-key g l
