use Rattle.itip_message.proofs.laws.read_again.Goals as goal
use Rattle.itip_message.proofs.ReadAgain.{reads_again}

pub returns : goal.returns
returns c = reads_again
