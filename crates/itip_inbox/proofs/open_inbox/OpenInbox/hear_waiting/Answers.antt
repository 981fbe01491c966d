use Rattle.std.proofs.Common.{refl, subst, List}
use Rattle.std.specs.Option.{option_copied}
use Rattle.itip_inbox.specs.Streaming.{Tells, waiting_of}
use Rattle.itip_inbox.specs.declared.waiting.Waiting.{Waiting}
use Rattle.itip_inbox.proofs.Hearing.{waiting_heard}
use Rattle.itip_inbox.proofs.open_inbox.OpenInbox.hear_waiting.Goals as goal

pub returns-clause-keeps : goal.returns-clause-keeps
returns-clause-keeps g c = λ messages got.
    waiting_heard (option_copied c.args.about) messages c.args.self.now c.take.new.self _ c.in_ok-heard.heard
    (subst (λ (ws : List Waiting). Tells (option_copied c.args.about) c.args.self.now.state (waiting_of ws) c.in_ok-heard.heard)
    c.as_slice-waiting.ensures.value c.in_ok-heard.ensures.tells)
    (c.in_ok-take.ensures.keeps (option_copied c.args.about)) refl refl refl got
