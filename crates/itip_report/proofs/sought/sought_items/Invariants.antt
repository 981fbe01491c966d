use Rattle.std.proofs.Common.{map, take}
use Rattle.itip_report.specs.Sought.{IsSought}
use Rattle.itip_report.proofs.Choosing.{Chosen}
use Rattle.itip_report.proofs.sought.sought_items.Given as goal

abbrev pub invariant-loop-item : goal.invariant-loop-item
invariant-loop-item l =
    Chosen (IsSought l.sought l.items) (take l.item-index (map (λ item. item.now) l.item-items)) (map (λ item. item.now) l.found.items)
