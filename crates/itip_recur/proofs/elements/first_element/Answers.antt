use Rattle.itip_recur.proofs.Cuts.{cut_first}
use Rattle.itip_recur.proofs.elements.first_element.Goals as goal

pub returns : goal.returns
returns c = cut_first c.args.value.now c.split_once.result c.split_once.ensures.cases
