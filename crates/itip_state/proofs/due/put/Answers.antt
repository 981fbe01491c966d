use Rattle.itip_state.proofs.Dying.{put_keeps}
use Rattle.itip_state.proofs.due.put.Goals as goal

pub returns-in_ok-insert-clause-keeps : goal.returns-in_ok-insert-clause-keeps
returns-in_ok-insert-clause-keeps c = put_keeps c.args.due.now c.insert.new.self _ c.in_ok-insert.ensures.updates
