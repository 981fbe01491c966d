use Rattle.itip_world.proofs.Uids.{nothing_used}
use Rattle.itip_world.proofs.looks.sequence_of.Goals as goal

pub returns-in-Err : goal.returns-in-Err
returns-in-Err c = nothing_used c.args.state.now c.args.uid.now c.in-Err.ensures.cases.0
