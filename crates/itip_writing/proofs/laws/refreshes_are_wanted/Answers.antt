use Rattle.itip_writing.proofs.ErrandLaws.{newest_wanted}
use Rattle.itip_writing.proofs.laws.refreshes_are_wanted.Goals as goal

pub returns : goal.returns
returns c = newest_wanted
