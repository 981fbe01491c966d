use Rattle.itip_join.proofs.Equal.{keyed_equal}
use Rattle.itip_join.proofs.keyed.KeyedJoin.copy.Goals as goal

pub returns : goal.returns
returns g c = keyed_equal _ _ c.in_ok-copy_all.ensures
