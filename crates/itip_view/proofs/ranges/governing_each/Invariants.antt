use Rattle.std.proofs.Common.{◌≡◌, map, take}
use Rattle.itip_view.proofs.ranges.governing_each.Given as goal

abbrev pub invariant-loop-range : goal.invariant-loop-range
invariant-loop-range l = map (λ range. range.item.now) (take l.range-index l.standing) ≡ map (λ range. range.item.now) l.governing.items
