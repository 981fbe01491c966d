use Rattle.std.proofs.Common.{map, take}
use Rattle.itip_report.proofs.Gathering.{ReportedOf}
use Rattle.itip_report.proofs.reported.all_reported.Given as goal

abbrev pub invariant-loop-uid : goal.invariant-loop-uid
invariant-loop-uid l =
    ReportedOf l.report l.state (take l.uid-index (map (λ uid. uid.now) l.uid-items)) (map (λ item. item.now) l.items.items)
