use Rattle.std.proofs.Common.{◌≡◌, map, take}
use Rattle.itip_desk.proofs.desk.copies.Given as goal

abbrev pub invariant-loop-uid : goal.invariant-loop-uid
invariant-loop-uid l = l.copies.items ≡ map (λ uid. uid.now) (take l.uid-index l.uids)
