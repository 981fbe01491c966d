use Rattle.itip_todo.proofs.Drafting.{takes_summary}
use Rattle.itip_todo.proofs.single.add_summary.Goals as goal

pub returns-clause-taken : goal.returns-clause-taken
returns-clause-taken c =
    takes_summary c.args.line.now c.args.draft.now c.in_ok-property_of.field-0 c.in_ok-check_free.ensures.free
    c.in_ok-property_of.ensures.value
