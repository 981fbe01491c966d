use Rattle.std.proofs.Common.{map, take}
use Rattle.itip_report.proofs.Choosing.{Chosen}
use Rattle.itip_writing.specs.Endings.{EndsLater}
use Rattle.itip_writing.proofs.onward.later_items.Given as goal

abbrev pub invariant-loop-item : goal.invariant-loop-item
invariant-loop-item l =
    Chosen (EndsLater l.items.items l.items.uid l.from) (take l.item-index (map (λ item. item.now) l.item-items))
    (map (λ item. item.now) l.later.items)
