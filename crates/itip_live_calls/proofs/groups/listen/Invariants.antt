use Rattle.std.proofs.Common.{◌≡◌}
use Rattle.itip_running.specs.ContractViews.{pass_pair}
use Rattle.itip_live_calls.proofs.groups.listen.Given as goal

abbrev pub invariant-loop : goal.invariant-loop
invariant-loop g l = pass_pair l.pass ≡ g.N.Naming.pair
