use Rattle.itip_todo.proofs.Drafting.{takes_start}
use Rattle.itip_todo.proofs.single.add_start.Goals as goal

pub returns-clause-taken : goal.returns-clause-taken
returns-clause-taken c =
    takes_start c.args.line.now c.args.draft.now c.in_ok-moment_of.field-0 c.in_ok-check_free.ensures.free c.in_ok-moment_of.ensures.value
