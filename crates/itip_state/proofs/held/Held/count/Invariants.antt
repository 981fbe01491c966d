use Rattle.std.proofs.Common.{◌≡◌, ◌+◌, ◌≤◌, length, min}
use Rattle.itip_state.specs.Held.{items_of}
use Rattle.itip_state.specs.UidStates.{uid_state, uid_states}
use Rattle.itip_state.proofs.held.Held.count.Given as goal

abbrev pub invariant-loop-series : goal.invariant-loop-series
invariant-loop-series l = record {
  counted : min (l.count + length (items_of (uid_states l.series-iterator uid_state))) 18446744073709551615 ≡ min
      (length (items_of l.self)) 18446744073709551615;
  fits : l.count ≤ 18446744073709551615;
}
