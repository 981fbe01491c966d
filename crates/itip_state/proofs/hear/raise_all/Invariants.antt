use Rattle.std.specs.Vec.Iter.{into_iter_items}
use Rattle.itip_state.specs.Newer.{AreAwaited}
use Rattle.itip_state.proofs.Waiting.{RaisedSoFar}
use Rattle.itip_state.proofs.hear.raise_all.Given as goal

abbrev pub invariant-loop-uid : goal.invariant-loop-uid
invariant-loop-uid l = AreAwaited l.initial.held l.fn.newer.items →
    RaisedSoFar l.initial.held l.held l.fn.newer.items (into_iter_items l.uid-iterator)
