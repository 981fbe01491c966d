use Rattle.itip_todo.proofs.Drafting.{takes_status}
use Rattle.itip_todo.proofs.single.add_status.Goals as goal

pub returns-clause-taken : goal.returns-clause-taken
returns-clause-taken c =
    takes_status c.args.line.now c.args.draft.now c.in_ok-status_of.field-0 c.in_ok-check_free.ensures.free c.in_ok-status_of.ensures.value
