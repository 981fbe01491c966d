use Rattle.std.proofs.Common.{◌≡◌, ◌∙◌, ◌∷◌, [], List, Some, ap, cond, false, map, sym}
use Rattle.itip_todo.specs.Parts.{Parts}
use Rattle.itip_state.proofs.Members.{if_ok_then}
use Rattle.itip_writing.specs.Cancelling.{cancelled}
use Rattle.itip_writing.specs.Endings.{instance_ending}
use Rattle.itip_writing.specs.Sent.{brief_parts}
use Rattle.itip_writing.proofs.onward.instance_ending.Goals as goal

pub returns-then-names_instance : goal.returns-then-names_instance
returns-then-names_instance c =
    let onward = c.args.onward in
    let one : Parts =
    cancelled onward.uid.now c.args.item.now (Some onward.from.now) false onward.revision.sequence onward.revision.stamp in
    let first : List Parts =
    instance_ending onward.uid.now c.args.item.now onward.from.now onward.revision.sequence onward.revision.stamp in
    if_ok_then (λ all. all.items ≡ c.cancelled-brief.result ∷ []) (λ all. map brief_parts all.items ≡ first) c.alone.result
    (λ all is. ap (map brief_parts) is ∙ ap (λ (p : Parts). p ∷ []) c.cancelled-brief.ensures
    ∙ sym (ap (λ b. cond b (one ∷ []) []) (sym c.names_instance.ensures ∙ c.if-names_instance.true))) c.alone.ensures

pub returns-else-names_instance : goal.returns-else-names_instance
returns-else-names_instance c =
    let onward = c.args.onward in
    let one : Parts =
    cancelled onward.uid.now c.args.item.now (Some onward.from.now) false onward.revision.sequence onward.revision.stamp in
    ap (map brief_parts) c.new.ensures.items
    ∙ sym (ap (λ b. cond b (one ∷ []) []) (sym c.names_instance.ensures ∙ c.if-names_instance.false))
