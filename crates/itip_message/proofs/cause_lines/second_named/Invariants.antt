use Rattle.std.proofs.Common.{◌≡◌, drop}
use Rattle.std.specs.List.{filter}
use Rattle.itip_message.specs.CauseLines.{is_named, second_line}
use Rattle.itip_message.proofs.Searches.{second_after}
use Rattle.itip_message.proofs.cause_lines.second_named.Given as goal

abbrev pub invariant-loop-line : goal.invariant-loop-line
invariant-loop-line l =
    second_after l.is_found (filter (is_named l.property) (drop l.line-index l.lines)) ≡ second_line (filter (is_named l.property) l.lines)
