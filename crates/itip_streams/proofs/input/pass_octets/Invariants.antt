use Rattle.std.proofs.Common.{◌≡◌, ◌+◌, ℕ, List, length}
use Rattle.std.specs.Io.KnownBytes.{Consumes}
use Rattle.itip_streams.specs.Once.{ReadsSome}
use Rattle.itip_streams.proofs.input.pass_octets.Given as goal

abbrev pub invariant-loop-left : goal.invariant-loop-left
invariant-loop-left g l = record {
  passed : (octets : List ℕ) × Consumes (g.R.Read.remaining l.fn.reader) (g.R.Read.remaining l.reader) octets ×
      (length octets + l.left ≡ l.count);
  well : ReadsSome g.R.ReadOnce.reads l.fn.reader l.reader;
}

abbrev pub decreases-loop-left : goal.decreases-loop-left
decreases-loop-left g l = l.left
