use Rattle.std.specs.BTreeMap.{IsOrdered}
use Rattle.std.specs.Vec.Iter.{into_iter_items}
use Rattle.itip_desk.proofs.LastMoves.{PutSoFar}
use Rattle.itip_desk.proofs.Ticking.{uid_cmp}
use Rattle.itip_desk.proofs.moved_since.MovedUids.of_moves.Given as goal

abbrev pub invariant-loop-uid : goal.invariant-loop-uid
invariant-loop-uid l = record {
  so_far : PutSoFar l.fn.moves.items (into_iter_items l.uid-iterator) l.ticks.entries;
  ordered : IsOrdered uid_cmp l.ticks;
}
