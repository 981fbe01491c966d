use Rattle.itip_moment.proofs.OptionLemmas.{IfNone-weaker}
use Rattle.itip_moment.proofs.read.read_stamp.Goals as goal

pub returns-clause-none : goal.returns-clause-none
returns-clause-none c =
    rw (← c.as_bytes.ensures.value) (IfNone-weaker c.utc.result (λ no stamp. no stamp.day stamp.second) c.utc.ensures.none)
