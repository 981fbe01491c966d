use Rattle.itip_page.proofs.Taken.{in_attributes}
use Rattle.itip_page.proofs.laws.values_stay_in_attributes.Goals as goal

pub returns : goal.returns
returns c = in_attributes
