use Rattle.itip_moment.proofs.ValueLaws.{shifted-one}
use Rattle.itip_moment.proofs.laws.sums_are_one_moment.Goals as goal

pub returns : goal.returns
returns c = shifted-one
