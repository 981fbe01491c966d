use Rattle.std.proofs.Common.{◌≡◌, map, take}
use Rattle.std.specs.String.{string_bytes}
use Rattle.itip_writing.specs.Removing.{lines_of}
use Rattle.itip_writing.proofs.removing.lines_of.Given as goal

-- the lines so far of these attendees
abbrev pub invariant-loop-line : goal.invariant-loop-line
invariant-loop-line l = l.found.items ≡ lines_of (map string_bytes l.attendees) (take l.line-index l.lines)
