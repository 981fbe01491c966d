use Rattle.std.proofs.Common.{map, take}
use Rattle.std.specs.String.{string_bytes}
use Rattle.itip_writing.specs.Removing.{ShowsAll}
use Rattle.itip_writing.proofs.removing.each_shown.Given as goal

-- each so far is of one who is shown
abbrev pub invariant-loop-address : goal.invariant-loop-address
invariant-loop-address l = ShowsAll l.shown (map string_bytes (take l.address-index l.attendees))
