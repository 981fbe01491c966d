use Rattle.std.proofs.Common.{◌≡◌, List, [], ◌∷◌, ap, sym, subst}
use Rattle.itip_items.specs.declared.item.Item.{Item}
use Rattle.itip_state.specs.Kept.{ArePartOf}
use Rattle.itip_desk.specs.HeardSteps.{heard}
use Rattle.itip_running.specs.History.{Items, batches_of}
use Rattle.itip_running.specs.Parts.{AreKeptOf}
use Rattle.itip_running.proofs.Seeing.{part_of_one}
use Rattle.itip_running.proofs.open_read.Look.items_of.Goals as goal

pub returns-in-Ok-clause-items : goal.returns-in-Ok-clause-items
returns-in-Ok-clause-items c =
    let same : batches_of c.close-end.result.front.seen.log ≡ batches_of c.args.self.front.seen.log =
    ap (λ s. batches_of s.log) c.close-end.ensures in
    let uid = c.args.uid.now in
    let items = c.in-Ok.items.items in
    let kept = c.desk.result.now.kept in
    let of : ArePartOf items kept (uid ∷ []) =
    subst (λ (k : List Item). ArePartOf items k (uid ∷ [])) c.state.ensures c.in-Ok.ensures.part in
    subst (λ (l : List Items). AreKeptOf uid items (heard l)) (sym same)
    (part_of_one uid items kept (heard (batches_of c.args.self.front.seen.log)) c.desk.ensures.kept of)
