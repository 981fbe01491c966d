use Rattle.std.proofs.Common.{◌≤◌, ◌-◌, vec_len}
use Rattle.std.specs.Io.KnownBytes.{Consumes}
use Rattle.itip_streams.specs.Once.{ReadsSome}
use Rattle.itip_streams.proofs.input.read_octets.Given as goal

abbrev pub invariant-loop-buffer : goal.invariant-loop-buffer
invariant-loop-buffer g l = record {
  given : Consumes (g.R.Read.remaining l.fn.reader) (g.R.Read.remaining l.reader) l.octets.items;
  few : vec_len l.octets ≤ l.count;
  well : ReadsSome g.R.ReadOnce.reads l.fn.reader l.reader;
}

abbrev pub decreases-loop-buffer : goal.decreases-loop-buffer
decreases-loop-buffer g l = l.count - vec_len l.octets
