use Rattle.std.proofs.Common.{◌≤◌, ℕ, vec_len}
use Rattle.std.specs.Io.KnownBytes.{Consumes}
use Rattle.itip_streams.specs.Once.{ReadsOn}
use Rattle.itip_streams.proofs.input.read_within.Given as goal

abbrev pub invariant-loop : goal.invariant-loop
invariant-loop g l = record {
  given : Consumes (g.R.Read.remaining l.fn.reader) (g.R.Read.remaining l.reader) l.text.items;
  few : vec_len l.text ≤ l.limit;
  well : (times : ℕ) × ReadsOn g.R.ReadOnce.reads times l.fn.reader l.reader;
}
