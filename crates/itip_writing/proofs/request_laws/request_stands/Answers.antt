use Rattle.itip_writing.proofs.RequestStands.{request_stands}
use Rattle.itip_writing.proofs.request_laws.request_stands.Goals as goal

pub returns : goal.returns
returns c = request_stands
