use Rattle.std.proofs.Common.{◌≡◌, map, take}
use Rattle.itip_desk.proofs.desk.shared_each.Given as goal

abbrev pub invariant-loop-item : goal.invariant-loop-item
invariant-loop-item l = map (λ item. item.now) l.each.items ≡ take l.item-index l.items
