use Rattle.std.proofs.Common.{◌∙◌, sym, ap, subst, List, ◌++◌, ℕ}
use Rattle.itip_message.specs.declared.error.MessageCause.{MessageCause}
use Rattle.itip_inbox.specs.declared.refused.RefusedMessage.{RefusedMessage}
use Rattle.itip_inbox.specs.Leb128.{numbers}
use Rattle.itip_inbox.specs.PackedRefusals.{unpacked, ArePacked}
use Rattle.itip_inbox.proofs.Packing.{both_packed, both_read}
use Rattle.itip_inbox.proofs.refusals.Refusals.append.Goals as goal

pub invariant_of-self-in-Ok : goal.invariant_of-self-in-Ok
invariant_of-self-in-Ok c =
    subst (λ (causes : List MessageCause). ArePacked causes c.append-2.new.self.items) (sym c.in_ok-append.ensures.items)
    (subst (ArePacked (c.self.inside.causes.items ++ c.others.inside.causes.items)) (sym c.in-Ok.ensures.items)
    (both_packed c.self.inside.causes.items c.others.inside.causes.items c.self.inside.places.items c.others.inside.places.items
    c.self.invariant c.others.invariant))

pub returns-in-Ok-clause-adds : goal.returns-in-Ok-clause-adds
returns-in-Ok-clause-adds c =
    ap (λ (causes : List MessageCause). unpacked causes (numbers c.append-2.new.self.items)) c.in_ok-append.ensures.items ∙
    ap (λ (octets : List ℕ). unpacked (c.self.inside.causes.items ++ c.others.inside.causes.items) (numbers octets)) c.in-Ok.ensures.items ∙
    both_read c.self.inside.causes.items c.others.inside.causes.items c.self.inside.places.items c.others.inside.places.items
    c.self.invariant c.others.invariant ∙
    ap (λ (old : List RefusedMessage). old ++ unpacked c.others.inside.causes.items (numbers c.others.inside.places.items)) c.self.view_is ∙
    ap (λ (more : List RefusedMessage). c.args.self.now ++ more) c.others.view_is
