use Rattle.std.proofs.Common.{◌≡◌, ◌++◌}
use Rattle.itip_state.specs.Held.{items_of, AreSound}
use Rattle.itip_state.specs.UidStates.{uid_state, uid_states}
use Rattle.itip_state.proofs.held.Held.shared_items.Given as goal

abbrev pub invariant-loop-series : goal.invariant-loop-series
invariant-loop-series l = record {
  shared : l.items.items ++ items_of (uid_states l.series-iterator uid_state) ≡ items_of l.self;
  sound : AreSound (uid_states l.series-iterator uid_state);
}
