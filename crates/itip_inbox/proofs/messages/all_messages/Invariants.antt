use Rattle.std.proofs.Common.{◌≡◌, ◌++◌, length, map}
use Rattle.itip_message.specs.Scanned.{messages_of}
use Rattle.itip_inbox.proofs.messages.all_messages.Given as goal

abbrev pub invariant-loop-message : goal.invariant-loop-message
invariant-loop-message l = messages_of l.octets ≡ map (λ text. text.now) l.texts.items ++ messages_of l.rest

abbrev pub decreases-loop-message : goal.decreases-loop-message
decreases-loop-message l = length l.rest
