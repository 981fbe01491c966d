use Rattle.std.proofs.Common.{map}
use Rattle.itip_state.proofs.Members.{if_ok_then}
use Rattle.itip_report.specs.Lines.{AreReported}
use Rattle.itip_report.specs.Reports.{IsReported}
use Rattle.itip_report.specs.Sought.{IsSought}
use Rattle.itip_report.proofs.SameOf.{found_for}
use Rattle.itip_report.proofs.reported.reported_of_uid.Goals as goal

pub returns : goal.returns
returns c =
    let part = c.args.items.now in
    if_ok_then (λ found. AreReported (IsSought c.in_ok-sought.sought part) (map (λ item. item.now) found.items))
    (λ found. AreReported (IsReported c.args.report part.items) (map (λ item. item.now) found.items))
    c.sought_items.result (λ found are. found_for part c.args.report c.in_ok-sought.sought (map (λ item. item.now) found.items)
    c.in_ok-sought.ensures.asked are) c.sought_items.ensures
