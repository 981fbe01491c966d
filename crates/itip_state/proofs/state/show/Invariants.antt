use Rattle.std.proofs.Common.{◌≡◌, ◌++◌, map}
use Rattle.itip_state.specs.Held.{entry_items, uid_state_items}
use Rattle.itip_state.specs.UidStates.{uid_state}
use Rattle.itip_state.proofs.state.show.Given as goal

abbrev pub invariant-loop-best : goal.invariant-loop-best
invariant-loop-best l = map (λ item. item.now) l.items.items ++ entry_items l.best-iterator
    ≡ map (λ item. item.now) l.fn.items.items ++ uid_state_items (uid_state l.series)
