use Rattle.std.proofs.Common.{List, subst, sym}
use Rattle.itip_items.specs.declared.item.Item.{Item}
use Rattle.itip_desk.specs.DeltaFormat.{Continues}
use Rattle.std.proofs.lemmas.Result.{err_from_is_err_and}
use Rattle.itip_desk.proofs.ReadDeltas.{reads_more, refuses_if, ends_reading}
use Rattle.itip_desk.proofs.delta_format.read_delta.Goals as goal

pub loop-message-preserved : goal.loop-message-preserved
loop-message-preserved c =
    subst (λ (items : List Item). Continues c.args.octets.now c.in-Some.after.now items) (sym c.in_ok-append.ensures.items)
    (reads_more c.args.octets.now c.loop-message.rest.now c.in-Some.message.now c.in-Some.after.now c.loop-message.items.items
    c.in_ok-given.given.items c.loop-message.invariant c.in-Some.ensures c.in_ok-given.ensures.found)

pub returns-clause-found : goal.returns-clause-found
returns-clause-found c =
    ends_reading c.args.octets.now c.loop-message.rest.now c.loop-message.items.items c.in_ok-of_items.field-0 c.loop-message.invariant
    c.in_default.ensures c.in_ok-of_items.ensures.items

pub returns-in_err-given-clause-fault : goal.returns-in_err-given-clause-fault
returns-in_err-given-clause-fault c =
    let p = err_from_is_err_and c.from_residual.result c.from_residual.ensures.1 in
    rw (p.1, p.2)
    (refuses_if c.in_err-given.field-0.0 c.args.octets.now c.loop-message.rest.now c.in-Some.message.now c.in-Some.after.now
    c.loop-message.items.items c.loop-message.invariant c.in-Some.ensures c.in_err-given.ensures.fault)
