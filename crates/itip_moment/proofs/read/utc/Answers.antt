use Rattle.itip_moment.proofs.OptionLemmas.{IfNone-weaker}
use Rattle.itip_moment.proofs.TextLemmas.{IsUtcText-local}
use Rattle.itip_moment.proofs.read.utc.Goals as goal

pub returns-in-90-clause-none : goal.returns-in-90-clause-none
returns-in-90-clause-none c =
    IfNone-weaker c.local.result (λ no day second is. no day second (IsUtcText-local _ day second is)) c.local.ensures.none
