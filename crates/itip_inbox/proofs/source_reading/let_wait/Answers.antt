use Rattle.std.proofs.Common.{◌++◌}
use Rattle.std.specs.Option.{option_copied}
use Rattle.itip_message.specs.Scanned.{messages_of}
use Rattle.itip_inbox.specs.Inbox.{placed_from}
use Rattle.itip_inbox.proofs.Hearing.{got_now}
use Rattle.itip_inbox.proofs.source_reading.let_wait.Goals as goal

pub returns-then-is_less-clause-waits : goal.returns-then-is_less-clause-waits
returns-then-is_less-clause-waits g c = c.in_ok-wait.ensures.keeps (option_copied c.args.about)

pub returns-clause-waits : goal.returns-clause-waits
returns-clause-waits g c = λ before got.
    got_now (option_copied c.args.about) (before ++ placed_from c.args.inbox.now.source 1 (messages_of c.args.octets.items))
    c.hear_waiting.new.self c.in_ok-hear_waiting.ensures.none
    (c.in_ok-hear_waiting.ensures.keeps _ (c.in_ok-wait.ensures.keeps (option_copied c.args.about) before got))
