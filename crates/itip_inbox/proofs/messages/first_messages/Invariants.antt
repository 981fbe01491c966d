use Rattle.std.proofs.Common.{length, map}
use Rattle.itip_inbox.specs.Streaming.{StaysCutInto}
use Rattle.itip_inbox.proofs.messages.first_messages.Given as goal

abbrev pub invariant-loop-message : goal.invariant-loop-message
invariant-loop-message l = StaysCutInto l.octets (map (λ text. text.now) l.texts.items) l.rest

abbrev pub decreases-loop-message : goal.decreases-loop-message
decreases-loop-message l = length l.rest
