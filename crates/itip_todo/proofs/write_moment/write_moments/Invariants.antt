use Rattle.std.proofs.Common.{◌≡◌, ◌++◌, map, take}
use Rattle.itip_todo.specs.Written.{contents_octets, moment_line}
use Rattle.itip_todo.proofs.write_moment.write_moments.Given as goal

-- the lines so far are written
abbrev pub invariant-loop-moment : goal.invariant-loop-moment
invariant-loop-moment l = l.out.items ≡ l.fn.out.items ++ contents_octets (map (moment_line l.property) (take l.moment-index l.moments))
