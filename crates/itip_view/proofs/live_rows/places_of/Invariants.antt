use Rattle.std.proofs.Common.{map, take}
use Rattle.std.specs.Option.{option_copied}
use Rattle.itip_view.proofs.Placing.{Places}
use Rattle.itip_view.proofs.live_rows.places_of.Given as goal

abbrev pub invariant-loop-item : goal.invariant-loop-item
invariant-loop-item l =
    Places (option_copied l.series) l.initial.places.items (take l.item-index (map (λ item. item.now) l.item-items)) l.places.items
