use Rattle.std.specs.BTreeMap.{get}
use Rattle.itip_join.specs.Optional.{IsBelowUnder}
use Rattle.itip_join.proofs.Walk.{IsWalk}
use Rattle.itip_join.proofs.merge.is_below.Given as goal

abbrev pub invariant-loop-key : goal.invariant-loop-key
invariant-loop-key g l = IsWalk g.K.Ord.cmp (get g.K.Ord.cmp l.map)
    (λ q. IsBelowUnder (g.S.Guard.is_dead l.guard q) g.V.Join.le (get g.K.Ord.cmp l.map q) (get g.K.Ord.cmp l.other q)) (λ q. Unit {0})
    l.key-iterator
