use Rattle.itip_page.proofs.Taken.{in_elements}
use Rattle.itip_page.proofs.laws.values_stay_in_elements.Goals as goal

pub returns : goal.returns
returns c = in_elements
