use Rattle.std.proofs.Common.{◌≡◌, None}
use Rattle.itip_state.specs.Held.{entry_items, uid_state_items}
use Rattle.itip_state.specs.UidStates.{uid_state}
use Rattle.itip_state.specs.Organizers.{greatest}
use Rattle.itip_state.proofs.organizers.greatest.Given as goal

abbrev pub invariant-loop-best : goal.invariant-loop-best
invariant-loop-best l = greatest l.last (entry_items l.best-iterator) ≡ greatest None (uid_state_items (uid_state l.series))
