use Rattle.std.proofs.Common.{◌≡◌, ◌++◌, List, ℕ}
use Rattle.std.specs.List.{AllByRecursion}
use Rattle.itip_state.specs.Held.{entry_items, uid_state_items, IsEntryAt}
use Rattle.itip_state.specs.UidStates.{uid_state}
use Rattle.itip_state.proofs.held_of_uid.share.Given as goal

abbrev pub invariant-loop-slot : goal.invariant-loop-slot
invariant-loop-slot l = record {
  shared : l.items.items ++ entry_items l.slot-iterator ≡ l.fn.items.items ++ uid_state_items (uid_state l.series);
  placed : (uid : List ℕ) × AllByRecursion (λ e. IsEntryAt uid e.0 e.1) l.slot-iterator;
}
