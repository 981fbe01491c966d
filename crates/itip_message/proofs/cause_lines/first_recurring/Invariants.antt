use Rattle.std.proofs.Common.{◌≡◌, drop}
use Rattle.std.specs.List.{filter}
use Rattle.itip_message.specs.CauseLines.{is_recurring, first_line}
use Rattle.itip_message.proofs.cause_lines.first_recurring.Given as goal

abbrev pub invariant-loop-line : goal.invariant-loop-line
invariant-loop-line l = first_line (filter is_recurring (drop l.line-index l.lines)) ≡ first_line (filter is_recurring l.lines)
