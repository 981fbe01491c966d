use Rattle.std.proofs.Common.{map, take}
use Rattle.itip_desk.specs.Index.{AreOfRows}
use Rattle.itip_desk.proofs.indexed.of_rows.Given as goal

abbrev pub invariant-loop-item : goal.invariant-loop-item
invariant-loop-item l = AreOfRows (map (λ item. item.now) l.found.items) (take l.item-index (map (λ item. item.now) l.news))
