use Rattle.std.proofs.Common.{◌≡◌, List, ap, ◌∙◌, subst}
use Rattle.itip_desk.specs.Desk.{IsDeskOf}
use Rattle.itip_desk.proofs.Stable.{desk_of}
use Rattle.itip_running.specs.History.{Items, batches_of}
use Rattle.itip_running.specs.declared.published.Published.{Published}
use Rattle.itip_running.proofs.open_read.Look.desk.Goals as goal

pub returns : goal.returns
returns c =
    let look = c.args.self.now in
    let shown = c.get.result.now in
    let log : shown.history ≡ batches_of look.front.seen.log = ap (λ (x : Published). x.history) c.get.ensures ∙ look.whole in
    desk_of (batches_of look.front.seen.log) 0 shown.desk (subst (λ (l : List Items). ∥ IsDeskOf l 0 shown.desk ∥₁) log shown.is)
