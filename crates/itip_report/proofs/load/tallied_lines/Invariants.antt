use Rattle.std.proofs.Common.{◌≡◌, List, map, take}
use Rattle.std.specs.String.{string_bytes}
use Rattle.itip_view.specs.declared.row.Row.{Row}
use Rattle.itip_report.specs.Load.{load_line}
use Rattle.itip_report.specs.Tally.{AreTallied}
use Rattle.itip_report.proofs.load.tallied_lines.Given as goal

abbrev pub invariant-loop-key : goal.invariant-loop-key
invariant-loop-key l =
    (done : List Row) → AreTallied done l.tally → map string_bytes l.lines.items ≡ map (load_line done) (take l.key-index l.key-items)
