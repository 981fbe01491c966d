use Rattle.std.proofs.Common.{sym, subst, List, ℕ}
use Rattle.itip_message.specs.declared.error.MessageCause.{MessageCause}
use Rattle.itip_inbox.specs.Leb128.{numbers}
use Rattle.itip_inbox.specs.PackedRefusals.{ArePlaces}
use Rattle.itip_inbox.proofs.Packing.{places_read}
use Rattle.itip_inbox.proofs.refusals.Refusals.iter.Goals as goal

pub invariant_of-result : goal.invariant_of-result
invariant_of-result c =
    subst (λ (causes : List MessageCause). ArePlaces causes (numbers c.as_slice-2.result.now)) (sym c.as_slice.ensures.value)
    (subst (λ (octets : List ℕ). ArePlaces c.self.inside.causes.items (numbers octets)) (sym c.as_slice-2.ensures.value)
    (places_read c.self.inside.causes.items c.self.inside.places.items c.self.invariant))
