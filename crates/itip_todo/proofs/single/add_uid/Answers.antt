use Rattle.itip_todo.proofs.Drafting.{takes_uid}
use Rattle.itip_todo.proofs.single.add_uid.Goals as goal

pub returns-clause-taken : goal.returns-clause-taken
returns-clause-taken c =
    takes_uid c.args.line.now c.args.draft.now c.in_ok-uid_of.field-0 c.in_ok-check_free.ensures.free c.in_ok-uid_of.ensures.value
