use Rattle.std.proofs.Common.{◌≡◌, ◌++◌, map}
use Rattle.itip_state.specs.Held.{series_list}
use Rattle.itip_state.specs.UidStates.{uid_state, uid_states}
use Rattle.itip_state.proofs.held.Held.series.Given as goal

abbrev pub invariant-loop-series : goal.invariant-loop-series
invariant-loop-series l = map (λ item. item.now) l.items.items ++ series_list (uid_states l.series-iterator uid_state) ≡ series_list l.self
