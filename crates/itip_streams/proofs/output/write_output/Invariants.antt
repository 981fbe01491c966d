use Rattle.std.proofs.Common.{ℕ, length}
use Rattle.itip_streams.specs.Once.{WritesOn}
use Rattle.itip_streams.specs.Written.{MovesOut}
use Rattle.itip_streams.proofs.output.write_output.Given as goal

abbrev pub invariant-loop-rest : goal.invariant-loop-rest
invariant-loop-rest g l = record {
  moved : MovesOut (g.W.Write.contents l.fn.writer) (g.W.Write.contents l.writer) l.bytes l.rest;
  well : (times : ℕ) × WritesOn g.W.WriteOnce.writes times l.fn.writer l.bytes l.writer l.rest;
}

abbrev pub decreases-loop-rest : goal.decreases-loop-rest
decreases-loop-rest g l = length l.rest
