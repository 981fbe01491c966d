use Rattle.std.proofs.Common.{◌≡◌, All}
use Rattle.std.specs.Vec.Iter.{into_iter_items}
use Rattle.itip_running.specs.ContractViews.{pass_pair}
use Rattle.itip_office.proofs.team.seats.Given as goal

abbrev pub invariant-loop-pass : goal.invariant-loop-pass
invariant-loop-pass g l = All (λ p. pass_pair p ≡ g.N.Pairs.pair l.desk) (into_iter_items l.pass-iterator)
