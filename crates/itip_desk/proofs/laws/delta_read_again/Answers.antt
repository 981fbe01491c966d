use Rattle.itip_desk.proofs.ReadDeltas.{written_read}
use Rattle.itip_desk.proofs.laws.delta_read_again.Goals as goal

pub returns : goal.returns
returns c = written_read
