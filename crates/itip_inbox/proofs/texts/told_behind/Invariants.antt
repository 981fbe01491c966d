use Rattle.std.proofs.Common.{◌≡◌, ◌++◌, map}
use Rattle.std.specs.Vec.Iter.{into_iter_items}
use Rattle.itip_inbox.specs.Placing.{later_told}
use Rattle.itip_inbox.proofs.texts.told_behind.Given as goal

abbrev pub invariant-loop-one : goal.invariant-loop-one
invariant-loop-one l = l.later.items ++ map (later_told l.count) (into_iter_items l.one-iterator) ≡ map (later_told l.count) l.fn.told.items
