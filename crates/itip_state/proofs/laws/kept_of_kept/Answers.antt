use Rattle.itip_state.proofs.Keeping.{kept_of_kept_lem}
use Rattle.itip_state.proofs.laws.kept_of_kept.Goals as goal

pub returns : goal.returns
returns c = kept_of_kept_lem
