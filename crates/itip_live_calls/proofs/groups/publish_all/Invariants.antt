use Rattle.std.proofs.Common.{◌≡◌}
use Rattle.itip_running.specs.ContractViews.{keeper_pair}
use Rattle.itip_live_calls.proofs.groups.publish_all.Given as goal

abbrev pub invariant-loop-number : goal.invariant-loop-number
invariant-loop-number g l = keeper_pair l.keeper ≡ g.N.Naming.pair
