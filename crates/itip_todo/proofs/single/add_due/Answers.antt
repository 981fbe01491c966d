use Rattle.itip_todo.proofs.Drafting.{takes_due}
use Rattle.itip_todo.proofs.single.add_due.Goals as goal

pub returns-clause-taken : goal.returns-clause-taken
returns-clause-taken c =
    takes_due c.args.line.now c.args.draft.now c.in_ok-moment_of.field-0 c.in_ok-check_free.ensures.free c.in_ok-moment_of.ensures.value
