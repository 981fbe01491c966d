use Rattle.std.proofs.Common.{subst, refl, ◌∙◌}
use Rattle.itip_view.specs.declared.window.Window.{Window}
use Rattle.itip_world.specs.Serving.{ServesOne, ServesFront}
use Rattle.itip_world.proofs.Runnings.{on_err}
use Rattle.itip_world.proofs.Streaming.{stream_begins, one_more, stream_ends, stream_front, stream_stays}
use Rattle.itip_world.proofs.stream.run_stream.Goals as goal

pub loop-init : goal.loop-init
loop-init g c = record {
  so_far = stream_begins c.args.window c.args.desks.items (g.R.Read.remaining c.args.reader.now) (g.W.Write.contents c.args.writer.now);
  window = refl;
}

pub returns-in_err-refused-clause-front : goal.returns-in_err-refused-clause-front
returns-in_err-refused-clause-front g c =
    on_err c.from_residual.result
    (stream_front _ _ _ _ _ _ _ _ c.loop.invariant.so_far _ _
    (subst (λ (w : Window). ServesFront w c.loop.served.desks.items (g.R.Read.remaining c.loop.reader)
    (g.R.Read.remaining c.step.new.reader)
    (g.W.Write.contents c.loop.writer) (g.W.Write.contents c.step.new.writer)) c.loop.invariant.window c.in_err-refused.ensures.front))

pub returns-in_default-clause-all : goal.returns-in_default-clause-all
returns-in_default-clause-all g c = stream_ends _ _ _ _ _ _ _ _ c.loop.invariant.so_far _ _ _
    (rw c.in_default.is at c.in_ok-refused.ensures.end)

pub loop-preserved : goal.loop-preserved
loop-preserved g c = record {
  so_far = one_more _ _ _ _ _ _ _ _ c.loop.invariant.so_far _ _ _ c.in-Some.refused
      (subst (λ (w : Window). ServesOne w c.loop.served.desks.items c.step.new.self.desks.items (g.R.Read.remaining c.loop.reader)
      (g.R.Read.remaining c.step.new.reader) (g.W.Write.contents c.loop.writer) (g.W.Write.contents c.step.new.writer) c.in-Some.refused)
      c.loop.invariant.window (rw c.in-Some.is at c.in_ok-refused.ensures.one));
  window = c.step.ensures.window ∙ c.loop.invariant.window;
}

pub returns-clause-front : goal.returns-clause-front
returns-clause-front g c = stream_stays _ _ _ _ _ _ _ _ c.loop.invariant.so_far _
