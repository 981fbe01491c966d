use Rattle.std.proofs.Common.{refl, inl}
use Rattle.itip_streams.proofs.LineReading.{none_passed, passed_whole, passed_end, passed_more}
use Rattle.itip_streams.proofs.InARow.{one_more, to_last}
use Rattle.itip_streams.proofs.input.pass_line.Goals as goal

pub loop-init : goal.loop-init
loop-init g c = record { so_far = none_passed c.args.last (g.R.Read.remaining c.args.reader.now); well = (0, refl) }

pub returns-then-last-eq10-clause-passes : goal.returns-then-last-eq10-clause-passes
returns-then-last-eq10-clause-passes g c = passed_whole _ _ _ _ c.loop.invariant.so_far c.if-last-eq10.true

pub loop-preserved : goal.loop-preserved
loop-preserved g c = record {
  so_far = passed_more _ _ _ _ c.loop.invariant.so_far c.if-last-eq10.false _ c.in-Some.octet
      (rw c.in-Some.is at c.in_ok-octet.ensures.reads);
  well = one_more g.R.ReadOnce.reads _ c.loop.reader _ c.loop.invariant.well (rw c.in-Some.is at c.in_ok-octet.ensures.well);
}

pub returns-in-None-clause-passes : goal.returns-in-None-clause-passes
returns-in-None-clause-passes g c =
    let last = rw c.in-None.is at c.in_ok-octet.ensures.reads in
    passed_end _ _ _ _ c.loop.invariant.so_far c.if-last-eq10.false _ last.0 last.1

pub returns-in-None-clause-well : goal.returns-in-None-clause-well
returns-in-None-clause-well g c =
    inl (to_last g.R.ReadOnce.reads _ _ c.loop.reader _ c.loop.invariant.well (rw c.in-None.is at c.in_ok-octet.ensures.well))
