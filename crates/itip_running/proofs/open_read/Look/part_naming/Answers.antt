use Rattle.std.proofs.Common.{◌≡◌, List, ap, sym, subst}
use Rattle.std.specs.Prelude.{IfOk}
use Rattle.itip_items.specs.declared.item.Item.{Item}
use Rattle.itip_state.specs.Kept.{AreKept}
use Rattle.itip_state.proofs.Members.{if_ok_then}
use Rattle.itip_desk.specs.HeardSteps.{heard}
use Rattle.itip_running.specs.History.{Items, batches_of}
use Rattle.itip_running.specs.Parts.{HasRowsFor}
use Rattle.itip_running.proofs.Seeing.{rows_for_of_items}
use Rattle.itip_running.proofs.open_read.Look.part_naming.Goals as goal

pub returns-in-Ok-clause-rows : goal.returns-in-Ok-clause-rows
returns-in-Ok-clause-rows c =
    let same : batches_of c.close-end.result.front.seen.log ≡ batches_of c.args.self.front.seen.log =
    ap (λ s. batches_of s.log) c.close-end.ensures in
    let all : List Item = heard (batches_of c.args.self.front.seen.log) in
    if_ok_then (λ part. AreKept part c.in-Ok.items.items) (λ part. HasRowsFor c.args.address.now part
    (heard (batches_of c.close-end.result.front.seen.log))) c.state_of-part.result
    (λ part kept. subst (λ (l : List Items). HasRowsFor c.args.address.now part (heard l)) (sym same)
    (rows_for_of_items part c.in-Ok.items.items c.desk.result.now.kept all kept c.desk.ensures.kept c.args.address.now
    c.in-Ok.ensures.rows))
    (subst (λ (items : List Item). IfOk c.state_of-part.result (λ part. AreKept part items)) c.deref.ensures.value
    c.state_of-part.ensures.kept)
