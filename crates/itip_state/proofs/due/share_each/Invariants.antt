use Rattle.std.proofs.Common.{◌≡◌, ◌++◌, Some}
use Rattle.std.specs.List.{AllByRecursion}
use Rattle.itip_state.specs.Held.{IsPlaceOf}
use Rattle.itip_state.specs.Due.{items_under}
use Rattle.itip_state.proofs.due.share_each.Given as goal

abbrev pub invariant-loop-slot : goal.invariant-loop-slot
invariant-loop-slot l = record {
  shared : l.items.items ++ items_under l.fn.sequence l.slot-iterator ≡ l.fn.items.items ++ items_under l.fn.sequence l.entries.map;
  placed : AllByRecursion (λ e. IsPlaceOf (Some e.0) e.1.value.key) l.slot-iterator;
}
