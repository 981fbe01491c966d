use Rattle.itip_state.proofs.KeptOnes.{has_from_test}
use Rattle.itip_state.proofs.plain.has.Goals as goal

pub returns : goal.returns
returns c = has_from_test c.contains.result c.args.items.now c.args.item.now c.contains.ensures.value
