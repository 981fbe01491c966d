use Rattle.itip_streams.specs.Once.{ReadsSome}
use Rattle.itip_streams.proofs.LineReading.{PassesSoFar}
use Rattle.itip_streams.proofs.input.pass_line.Given as goal

abbrev pub invariant-loop : goal.invariant-loop
invariant-loop g l = record {
  so_far : PassesSoFar l.initial.last l.last (g.R.Read.remaining l.fn.reader) (g.R.Read.remaining l.reader);
  well : ReadsSome g.R.ReadOnce.reads l.fn.reader l.reader;
}
