use Rattle.itip_todo.proofs.Drafting.{takes_stamp}
use Rattle.itip_todo.proofs.single.add_stamp.Goals as goal

pub returns-clause-taken : goal.returns-clause-taken
returns-clause-taken c =
    takes_stamp c.args.line.now c.args.draft.now c.in_ok-stamp_of.field-0 c.in_ok-check_free.ensures.free c.in_ok-stamp_of.ensures.value
