use Rattle.std.proofs.Common.{◌≡◌, take}
use Rattle.std.specs.List.{flat_map}
use Rattle.std.specs.String.{string_bytes}
use Rattle.itip_inbox.specs.Reports.{ended}
use Rattle.itip_inbox.proofs.reports.ended_lines.Given as goal

abbrev pub invariant-loop-line : goal.invariant-loop-line
invariant-loop-line l = l.text.items ≡ flat_map (λ line. ended (string_bytes line)) (take l.line-index l.lines)
