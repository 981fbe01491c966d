use Rattle.std.proofs.Common.{suc, refl, arith}
use Rattle.std.proofs.lemmas.List.{take_rest}
use Rattle.itip_streams.proofs.Writing.{moves_none, wrote_more}
use Rattle.itip_streams.proofs.output.write_output.Goals as goal

pub loop-rest-init : goal.loop-rest-init
loop-rest-init g c = record { moved = moves_none _ _; well = (0, (refl, refl)) }

pub loop-rest-preserved : goal.loop-rest-preserved
loop-rest-preserved g c = record {
  moved = wrote_more _ _ _ _ c.loop-rest.rest.now c.in_ok-count.count c.loop-rest.invariant.moved c.in_ok-count.ensures.bytes;
  well = (
    suc c.loop-rest.invariant.well.0,
    (
      c.loop-rest.writer,
      c.loop-rest.rest.now,
      c.in_ok-count.count,
      c.loop-rest.invariant.well.1,
      omega arith,
      c.in_ok-count.ensures.once,
      take_rest c.loop-rest.rest.now c.in_ok-count.count,
    ),
  );
}
