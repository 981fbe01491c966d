use Rattle.itip_items.proofs.laws.equal_octets.Goals as goal
use Rattle.itip_items.proofs.SameItem.{same_item}

pub returns : goal.returns
returns c = same_item
