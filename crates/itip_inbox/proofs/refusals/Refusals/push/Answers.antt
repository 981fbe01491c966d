use Rattle.std.proofs.Common.{◌∙◌, sym, ap, subst, List, ◌++◌, ◌∷◌, [], rules}
use Rattle.itip_message.specs.declared.error.MessageCause.{MessageCause}
use Rattle.itip_inbox.specs.declared.refused.RefusedMessage.{RefusedMessage}
use Rattle.itip_inbox.specs.Leb128.{numbers}
use Rattle.itip_inbox.specs.PackedRefusals.{unpacked, ArePacked}
use Rattle.itip_inbox.proofs.Packing.{one_packed, one_read}
use Rattle.itip_inbox.proofs.refusals.Refusals.push.Goals as goal

pub invariant_of-self-in-Ok : goal.invariant_of-self-in-Ok
invariant_of-self-in-Ok c =
    subst (λ (causes : List MessageCause). ArePacked causes c.push_places.new.octets.items) (sym c.in_ok-push.ensures.items)
    (one_packed c.self.inside.causes.items c.self.inside.places.items c.push_places.new.octets.items c.args.refused c.self.invariant
    (search rules)
    (c.in-Ok.ensures.adds _ c.self.invariant.spelled))

pub returns-in-Ok-clause-adds : goal.returns-in-Ok-clause-adds
returns-in-Ok-clause-adds c =
    ap (λ (causes : List MessageCause). unpacked causes (numbers c.push_places.new.octets.items)) c.in_ok-push.ensures.items ∙
    one_read c.self.inside.causes.items c.self.inside.places.items c.push_places.new.octets.items c.args.refused
    (c.in-Ok.ensures.adds _ c.self.invariant.spelled) ∙ ap (λ (old : List RefusedMessage). old ++ c.args.refused ∷ []) c.self.view_is
