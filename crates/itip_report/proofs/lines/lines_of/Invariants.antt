use Rattle.std.proofs.Common.{◌≡◌, map, take}
use Rattle.std.specs.String.{string_bytes}
use Rattle.itip_report.specs.Reports.{line_of}
use Rattle.itip_report.proofs.lines.lines_of.Given as goal

abbrev pub invariant-loop-item : goal.invariant-loop-item
invariant-loop-item l = map string_bytes l.lines.items ≡ map (λ item. line_of l.report item.now) (take l.item-index l.item-items)
