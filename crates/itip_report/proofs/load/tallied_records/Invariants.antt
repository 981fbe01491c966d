use Rattle.std.proofs.Common.{◌≡◌, List, map, take}
use Rattle.itip_view.specs.declared.row.Row.{Row}
use Rattle.itip_report.specs.Records.{load_of}
use Rattle.itip_report.specs.Tally.{AreTallied}
use Rattle.itip_report.proofs.load.tallied_records.Given as goal

abbrev pub invariant-loop-key : goal.invariant-loop-key
invariant-loop-key l = (done : List Row) → AreTallied done l.tally → l.loads.items ≡ map (load_of done) (take l.key-index l.key-items)
