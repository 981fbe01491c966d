use Rattle.std.proofs.Common.{◌≡◌, List, ◌++◌, ap, sym, subst}
use Rattle.itip_items.specs.declared.item.Item.{Item}
use Rattle.itip_state.specs.Kept.{AreKept}
use Rattle.itip_desk.specs.HeardSteps.{heard}
use Rattle.itip_running.specs.History.{Items, batches_of}
use Rattle.itip_running.proofs.Seeing.{kept_through}
use Rattle.itip_running.proofs.open_read.Look.kept.Goals as goal

pub returns-in-Ok-clause-kept : goal.returns-in-Ok-clause-kept
returns-in-Ok-clause-kept c =
    let same : batches_of c.close-end.result.front.seen.log ≡ batches_of c.args.self.front.seen.log =
    ap (λ s. batches_of s.log) c.close-end.ensures in
    let part = c.merge-merged.new.self in
    let kept = c.desk.result.now.kept in
    let shown = c.state.result.now in
    let is : AreKept part kept =
    subst (λ (k : List Item). AreKept part k) c.state.ensures
    (subst (λ (none : List Item). AreKept part (none ++ shown)) c.empty-kept.ensures c.in-Ok.ensures.ok) in
    subst (λ (l : List Items). AreKept part (heard l)) (sym same)
    (kept_through part kept (heard (batches_of c.args.self.front.seen.log)) c.desk.ensures.kept is)
