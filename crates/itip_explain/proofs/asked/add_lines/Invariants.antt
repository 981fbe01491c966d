use Rattle.std.proofs.Common.{take}
use Rattle.std.specs.Option.{option_copied}
use Rattle.itip_explain.specs.Asking.{AddsAskings}
use Rattle.itip_explain.proofs.Askings.{AsksLines}
use Rattle.itip_explain.proofs.asked.add_lines.Given as goal

abbrev pub invariant-loop-line : goal.invariant-loop-line
invariant-loop-line l =
    AddsAskings (AsksLines (option_copied l.by) (take l.line-index l.lines)) l.initial.found.items l.found.items
