use Rattle.std.proofs.Common.{map, drop}
use Rattle.itip_desk.proofs.Ticking.{FoundSoFar}
use Rattle.itip_desk.proofs.moved_since.MovedUids.after.Given as goal

abbrev pub invariant-loop-tick : goal.invariant-loop-tick
invariant-loop-tick l = FoundSoFar l.self.carried l.since (map (λ u. u.now) l.uids.items) (drop l.tick-index l.tick-items)
