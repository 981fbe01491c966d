use Rattle.std.proofs.Common.{map, take}
use Rattle.std.specs.Option.{option_copied}
use Rattle.itip_view.proofs.Ranging.{FoundIn}
use Rattle.itip_view.proofs.ranges.standing_ranges.Given as goal

abbrev pub invariant-loop-item : goal.invariant-loop-item
invariant-loop-item l = FoundIn (option_copied l.series) (take l.item-index (map (λ item. item.now) l.item-items)) l.found.items
