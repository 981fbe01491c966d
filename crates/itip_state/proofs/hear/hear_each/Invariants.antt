use Rattle.std.proofs.Common.{map, take}
use Rattle.itip_state.specs.Undone.{AreUndone}
use Rattle.itip_state.specs.Newer.{AreTakenIn}
use Rattle.itip_state.proofs.hear.hear_each.Given as goal

abbrev pub invariant-loop-item : goal.invariant-loop-item
invariant-loop-item l = record {
  taken : AreTakenIn l.initial.held l.held (map (λ item. item.now) (take l.item-index l.items)) l.newer.items;
  undo : AreUndone l.changes.items l.held l.initial.held;
}
