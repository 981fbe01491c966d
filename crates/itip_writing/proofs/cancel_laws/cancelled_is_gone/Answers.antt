use Rattle.itip_writing.proofs.CancelLaws.{whole_gone, instance_gone, onward_gone}
use Rattle.itip_writing.proofs.cancel_laws.cancelled_is_gone.Goals as goal

pub returns : goal.returns
returns c = record { whole = whole_gone; instance = instance_gone; onward = onward_gone }
