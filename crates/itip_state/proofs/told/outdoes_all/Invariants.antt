use Rattle.std.proofs.Common.{map, take}
use Rattle.itip_state.specs.Held.{items_of, AreHeld}
use Rattle.itip_state.specs.Told.{AreOutdone}
use Rattle.itip_state.proofs.told.outdoes_all.Given as goal

abbrev pub invariant-loop-item : goal.invariant-loop-item
invariant-loop-item l = AreHeld l.held → AreOutdone (items_of l.held) (map (λ item. item.now) (take l.item-index l.items))
