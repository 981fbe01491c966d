use Rattle.itip_world.proofs.Runnings.{on_err}
use Rattle.itip_streams.proofs.Writing.{front_none}
use Rattle.std.proofs.Common.{inl, refl, []}
use Rattle.std.proofs.KnownBytes.{Keeps-refl}
use Rattle.itip_world.proofs.Streaming.{nothing_read, serves_one, serves_front}
use Rattle.itip_world.proofs.served.Served.step.Goals as goal

pub returns-in_err-found-clause-front : goal.returns-in_err-found-clause-front
returns-in_err-found-clause-front g c = on_err c.from_residual.result (inl (front_none (g.W.Write.contents c.args.writer.now) []))

pub returns-in_default-clause-end : goal.returns-in_default-clause-end
returns-in_default-clause-end g c = record {
  still = refl;
  reads = nothing_read _ _ _ c.in_ok-found.ensures.reads (rw c.as_deref.ensures.value at c.in_default.ensures.asks);
  kept = Keeps-refl (g.W.Write.contents c.args.writer.now);
}

pub returns-in_err-refused-clause-front : goal.returns-in_err-refused-clause-front
returns-in_err-refused-clause-front g c =
    on_err c.from_residual-in_err-refused.result
    (serves_front _ _ _ _ _ _ _ _ c.in_ok-found.ensures.reads (rw c.as_deref.ensures.value at c.in-Some.ensures.asks) _
    c.in_err-refused.ensures.front)

pub returns-clause-one : goal.returns-clause-one
returns-clause-one g c =
    serves_one _ _ _ _ _ _ _ _ c.in_ok-found.ensures.reads (rw c.as_deref.ensures.value at c.in-Some.ensures.asks) _ _
    c.in_ok-refused.refused c.in_ok-refused.ensures.one
