use Rattle.std.proofs.Common.{sym, subst, List, ℕ, map}
use Rattle.itip_inbox.specs.Streaming.{StaysCutInto}
use Rattle.itip_inbox.proofs.Streams.{cut_shorter}
use Rattle.itip_inbox.proofs.messages.first_messages.Goals as goal

pub loop-message-smaller : goal.loop-message-smaller
loop-message-smaller c = cut_shorter c.loop-message.rest.now c.in-Ok.message.now c.in-Ok.after.now c.in-Ok.ensures.cut

pub returns-in-Err-clause-cut : goal.returns-in-Err-clause-cut
returns-in-Err-clause-cut c =
    subst (λ (t : List ℕ). StaysCutInto c.args.octets.now (map (λ text. text.now) c.loop-message.texts.items) t)
    (sym c.in-Err.ensures.octets) c.loop-message.invariant
