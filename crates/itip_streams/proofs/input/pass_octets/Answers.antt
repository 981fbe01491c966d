use Rattle.std.proofs.Common.{arith, refl, length-take, ◌++◌, take, []}
use Rattle.std.proofs.KnownBytes.{Consumes-nil, Consumes-trans}
use Rattle.itip_streams.proofs.LineReading.{none_read, more_octets, fewer_passed, all_passed}
use Rattle.itip_streams.proofs.InARow.{gave_none, gave_some, one_more, to_last}
use Rattle.itip_streams.proofs.input.pass_octets.Goals as goal

pub loop-left-init : goal.loop-left-init
loop-left-init g c = record { passed = ([], Consumes-nil (g.R.Read.remaining c.args.reader.now), omega arith); well = (0, refl) }

pub returns-then-brought-eq0-clause-passes : goal.returns-then-brought-eq0-clause-passes
returns-then-brought-eq0-clause-passes g c =
    fewer_passed c.args.count _ _ c.loop-left.invariant.passed.0 c.loop-left.invariant.passed.1 _ (omega arith)
    (none_read _ _ _ _ c.in_ok-brought.ensures.bytes.0 c.in_ok-brought.ensures.bytes.1 c.if-brought-eq0.true
    (omega (arith, length-take c.min-room.result c.loop-left.buffer)))

pub returns-then-brought-eq0-clause-well : goal.returns-then-brought-eq0-clause-well
returns-then-brought-eq0-clause-well g c =
    to_last g.R.ReadOnce.reads _ _ c.loop-left.reader _ c.loop-left.invariant.well
    (gave_none g.R.ReadOnce.reads _ _ _ _ c.in_ok-brought.ensures.once c.if-brought-eq0.true)

pub loop-left-preserved : goal.loop-left-preserved
loop-left-preserved g c =
    let before = c.loop-left.invariant.passed in
    let size = more_octets before.0 c.in_ok-brought.brought c.read_some.new.buffer c.in_ok-brought.ensures.bound in
    record {
      passed = (
        before.0 ++ take c.in_ok-brought.brought c.read_some.new.buffer,
        Consumes-trans _ _ _ _ _ before.1 c.in_ok-brought.ensures.bytes.0,
        omega (arith, size, c.in_ok-brought.ensures.bound, length-take c.min-room.result c.loop-left.buffer),
      );
      well = one_more g.R.ReadOnce.reads _ c.loop-left.reader _ c.loop-left.invariant.well
          (gave_some g.R.ReadOnce.reads _ _ _ _ c.in_ok-brought.ensures.once c.if-brought-eq0.false);
    }

pub returns-clause-passes : goal.returns-clause-passes
returns-clause-passes g c =
    all_passed c.args.count _ _ c.loop-left.invariant.passed.0 c.loop-left.invariant.passed.1 (omega arith)
