use Rattle.std.proofs.Common.{◌-◌, vec_len}
use Rattle.itip_inbox.specs.Streaming.{Brings}
use Rattle.itip_inbox.proofs.source_reading.fill.Given as goal

abbrev pub invariant-loop-room : goal.invariant-loop-room
invariant-loop-room g l = Brings (g.R.Read.remaining l.fn.reader) (g.R.Read.remaining l.reader) l.fn.held.items l.held.items

abbrev pub decreases-loop-room : goal.decreases-loop-room
decreases-loop-room g l = l.want - vec_len l.held
