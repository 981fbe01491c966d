use Rattle.itip_join.proofs.Equal.{guarded_equal}
use Rattle.itip_join.proofs.guarded.GuardedJoin.copy.Goals as goal

pub returns : goal.returns
returns g c = guarded_equal _ _ c.in_ok-copy.ensures c.in_ok-copy-2.ensures
