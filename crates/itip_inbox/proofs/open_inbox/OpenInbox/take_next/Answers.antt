use Rattle.std.proofs.Common.{refl, ◌+◌, ◌++◌}
use Rattle.itip_inbox.specs.Inbox.{placed_from}
use Rattle.itip_inbox.proofs.Hearing.{keeps_same, next_tells}
use Rattle.itip_inbox.proofs.open_inbox.OpenInbox.take_next.Goals as goal

pub returns-clause-keeps : goal.returns-clause-keeps
returns-clause-keeps g c = λ about before texts keeps tells.
    keeps_same about (before ++ placed_from c.args.self.now.source (c.args.self.now.messages + 1) texts) c.take.new.self _ refl refl refl
    (c.in_ok-take.ensures.keeps about before (placed_from c.args.self.now.source (c.args.self.now.messages + 1) texts) keeps
    (next_tells about c.args.self.now.state c.args.self.now.source c.args.self.now.messages texts c.move_behind.new.self
    (c.in_ok-move_behind.ensures.tells about c.args.self.now.state c.args.self.now.source 1 texts tells)))
