use Rattle.std.proofs.Common.{◌≤◌, ◌-◌, vec_len}
use Rattle.itip_streams.specs.Once.{ReadsSome}
use Rattle.itip_streams.proofs.LineReading.{LineSoFar}
use Rattle.itip_streams.proofs.input.read_line_within.Given as goal

abbrev pub invariant-loop-reader : goal.invariant-loop-reader
invariant-loop-reader g l = record {
  so_far : LineSoFar (g.R.Read.remaining l.fn.reader) (g.R.Read.remaining l.reader) l.line.items;
  short : vec_len l.line ≤ l.limit;
  well : ReadsSome g.R.ReadOnce.reads l.fn.reader l.reader;
}

abbrev pub decreases-loop-reader : goal.decreases-loop-reader
decreases-loop-reader g l = l.limit - vec_len l.line
