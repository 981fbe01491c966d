use Rattle.itip_todo.proofs.Drafting.{takes_organizer}
use Rattle.itip_todo.proofs.single.add_organizer.Goals as goal

pub returns-clause-taken : goal.returns-clause-taken
returns-clause-taken c =
    takes_organizer c.args.line.now c.args.draft.now c.in_ok-organizer_of.field-0 c.in_ok-check_free.ensures.free
    c.in_ok-organizer_of.ensures.value
