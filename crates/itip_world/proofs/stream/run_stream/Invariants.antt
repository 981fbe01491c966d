use Rattle.std.proofs.Common.{◌≡◌}
use Rattle.itip_world.specs.Serving.{StreamSoFar}
use Rattle.itip_world.proofs.stream.run_stream.Given as goal

abbrev pub invariant-loop : goal.invariant-loop
invariant-loop g l = record {
  so_far : StreamSoFar l.fn.window l.fn.desks.items l.served.desks.items (g.R.Read.remaining l.fn.reader) (g.R.Read.remaining l.reader)
      (g.W.Write.contents l.fn.writer) (g.W.Write.contents l.writer) l.is_refused;
  window : l.served.window ≡ l.fn.window;
}
