use Rattle.itip_inbox.proofs.Hearing.{got_none}
use Rattle.itip_inbox.proofs.open_inbox.OpenInbox.empty.Goals as goal

pub returns-clause-none : goal.returns-clause-none
returns-clause-none c = λ about.
    got_none about _ c.in_ok-empty.ensures c.none.ensures c.new.ensures.items c.new-2.ensures.items
