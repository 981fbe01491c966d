use Rattle.itip_recur.proofs.Ascents.{nothing_ascends}
use Rattle.itip_recur.proofs.ascending.Ascending.new.Goals as goal

pub invariant_of-result : goal.invariant_of-result
invariant_of-result c = record { ascending = nothing_ascends c.new.result.items c.new.ensures.items }
