use Rattle.std.proofs.Common.{refl}
use Rattle.itip_inbox.proofs.Hearing.{got_waits}
use Rattle.itip_inbox.proofs.open_inbox.OpenInbox.wait.Goals as goal

pub returns-clause-keeps : goal.returns-clause-keeps
returns-clause-keeps c = λ about before got.
    got_waits about before c.args.self.now _ _ refl refl refl c.in_ok-push.ensures.items got
