use Rattle.itip_world.proofs.Uids.{nothing_sent}
use Rattle.itip_world.proofs.looks.messages_of.Goals as goal

pub returns-in-Err : goal.returns-in-Err
returns-in-Err c = nothing_sent c.args.state.now c.args.uid.now c.in-Err.ensures.cases.0
