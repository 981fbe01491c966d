use Rattle.itip_state.proofs.Keeping.{kept_by_uid}
use Rattle.itip_state.proofs.laws.uid_by_uid.Goals as goal

pub returns : goal.returns
returns c = kept_by_uid
