use Rattle.std.proofs.Common.{◌≡◌, drop}
use Rattle.itip_message.specs.Head.{odd_line, named}
use Rattle.itip_message.proofs.Heads.{odd_after}
use Rattle.itip_message.proofs.head.odd_line.Given as goal

abbrev pub invariant-loop-line : goal.invariant-loop-line
invariant-loop-line l = odd_after l.found (named l.name (drop l.line-index l.lines)) ≡ odd_line (named l.name l.lines)
