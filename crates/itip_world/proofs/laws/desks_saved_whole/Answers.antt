use Rattle.itip_world.proofs.HeardOctets.{stream_told}
use Rattle.itip_world.proofs.laws.desks_saved_whole.Goals as goal

pub returns : goal.returns
returns c = λ window input left desks after served. stream_told window input desks served left after
