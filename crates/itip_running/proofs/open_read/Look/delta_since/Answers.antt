use Rattle.std.proofs.Common.{◌≡◌, List, ap, sym, subst}
use Rattle.itip_running.specs.Deltas.{IsDeltaAfter}
use Rattle.itip_running.specs.History.{Items, batches_of}
use Rattle.itip_running.proofs.Seeing.{delta_after}
use Rattle.itip_running.proofs.open_read.Look.delta_since.Goals as goal

pub returns-in-Ok-clause-delta : goal.returns-in-Ok-clause-delta
returns-in-Ok-clause-delta c =
    let same : batches_of c.close-end.result.front.seen.log ≡ batches_of c.args.self.front.seen.log =
    ap (λ s. batches_of s.log) c.close-end.ensures in
    subst (λ (l : List Items). IsDeltaAfter l c.args.tick c.in-Ok.delta) (sym same)
    (delta_after (batches_of c.args.self.front.seen.log) c.desk.result.now c.args.tick c.in-Ok.delta c.in-Ok.ensures.delta c.desk.ensures)
