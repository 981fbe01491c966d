use Rattle.std.proofs.Common.{take}
use Rattle.std.specs.BTreeMap.{IsOrdered}
use Rattle.std.specs.List.Sorted.{IsNonDecreasingBy}
use Rattle.itip_desk.specs.MovedSince.{move_tick}
use Rattle.itip_desk.proofs.Ticking.{uid_cmp, AreMarked}
use Rattle.itip_desk.proofs.moved_since.MovedUids.mark.Given as goal

abbrev pub invariant-loop-uid : goal.invariant-loop-uid
invariant-loop-uid l = record {
  ordered : IsOrdered uid_cmp l.self-inside.ticks;
  by_tick : IsNonDecreasingBy move_tick l.self-inside.order.items;
  marked : AreMarked l.tick l.uids (take l.uid-index l.uids) l.fn.self.carried l.self-inside.ticks.entries l.self-inside.order.items;
}
