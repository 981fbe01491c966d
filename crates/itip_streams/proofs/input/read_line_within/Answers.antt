use Rattle.std.proofs.Common.{refl, arith}
use Rattle.itip_streams.proofs.LineReading.{no_line, line_ends, line_whole, line_more, held_whole, held_none}
use Rattle.itip_streams.proofs.InARow.{one_more, ends_some, ends_none, ends_line, fails_on}
use Rattle.itip_streams.proofs.input.read_line_within.Goals as goal

pub loop-reader-init : goal.loop-reader-init
loop-reader-init g c = record {
  so_far = no_line (g.R.Read.remaining c.args.reader.now) c.new-line.result.items c.new-line.ensures.items;
  short = omega arith;
  well = (0, refl);
}

pub returns-in_default-clause-reads : goal.returns-in_default-clause-reads
returns-in_default-clause-reads g c =
    let last = rw c.in_default.is at c.in_ok-octet.ensures.reads in
    held_whole c.args.limit _ _ c.loop-reader.line.items
    (line_ends _ _ _ c.loop-reader.line.items c.loop-reader.invariant.so_far last.0 last.1) (omega arith)

pub returns-in_default-clause-well : goal.returns-in_default-clause-well
returns-in_default-clause-well g c =
    ends_none g.R.ReadOnce.reads _ c.loop-reader.reader _ c.loop-reader.invariant.well (rw c.in_default.is at c.in_ok-octet.ensures.well)

pub returns-in_default-2-clause-reads : goal.returns-in_default-2-clause-reads
returns-in_default-2-clause-reads g c =
    let last = rw c.in_default-2.is at c.in_ok-octet-2.ensures.reads in
    held_whole c.args.limit _ _ c.loop-reader.line.items
    (line_ends _ _ _ c.loop-reader.line.items c.loop-reader.invariant.so_far last.0 last.1) (omega arith)

pub returns-in_default-2-clause-well : goal.returns-in_default-2-clause-well
returns-in_default-2-clause-well g c =
    ends_none g.R.ReadOnce.reads _ c.loop-reader.reader _ c.loop-reader.invariant.well
    (rw c.in_default-2.is at c.in_ok-octet-2.ensures.well)

pub returns-then-octet-eq10-clause-reads : goal.returns-then-octet-eq10-clause-reads
returns-then-octet-eq10-clause-reads g c =
    held_whole c.args.limit _ _ c.push.new.self.items
    (line_whole _ _ _ c.loop-reader.line.items c.loop-reader.invariant.so_far c.in-Some.octet c.push.new.self.items
    c.in_ok-push.ensures.items
    (rw c.in-Some.is at c.in_ok-octet.ensures.reads) c.if-octet-eq10.true) (omega arith)

pub returns-then-octet-eq10-clause-well : goal.returns-then-octet-eq10-clause-well
returns-then-octet-eq10-clause-well g c =
    ends_some g.R.ReadOnce.reads _ c.loop-reader.reader _ c.loop-reader.invariant.well (rw c.in-Some.is at c.in_ok-octet.ensures.well)

pub loop-reader-preserved : goal.loop-reader-preserved
loop-reader-preserved g c = record {
  so_far = line_more _ _ _ c.loop-reader.line.items c.loop-reader.invariant.so_far c.in-Some.octet c.push.new.self.items
      c.in_ok-push.ensures.items (rw c.in-Some.is at c.in_ok-octet.ensures.reads) c.if-octet-eq10.false;
  short = omega arith;
  well = one_more g.R.ReadOnce.reads _ c.loop-reader.reader _ c.loop-reader.invariant.well (rw c.in-Some.is at c.in_ok-octet.ensures.well);
}

pub returns-clause-reads : goal.returns-clause-reads
returns-clause-reads g c =
    held_none c.args.limit _ _ _ _ c.loop-reader.line.items c.in-Some-2.octet c.loop-reader.invariant.so_far (omega arith)
    (rw c.in-Some-2.is at c.in_ok-octet-2.ensures.reads) c.in_ok-pass_line.ensures.passes

pub returns-in_err-pass_line-clause-failed : goal.returns-in_err-pass_line-clause-failed
returns-in_err-pass_line-clause-failed g c = λ _.
    fails_on g.R.ReadOnce.reads _ _ _
    (one_more g.R.ReadOnce.reads _ c.loop-reader.reader _ c.loop-reader.invariant.well (rw c.in-Some-2.is at c.in_ok-octet-2.ensures.well))
    c.in_err-pass_line.ensures.failed

pub returns-clause-well : goal.returns-clause-well
returns-clause-well g c =
    ends_line g.R.ReadOnce.reads _ c.loop-reader.reader _ _ c.loop-reader.invariant.well
    (rw c.in-Some-2.is at c.in_ok-octet-2.ensures.well) c.in_ok-pass_line.ensures.well

pub returns-in_err-push-clause-stopped : goal.returns-in_err-push-clause-stopped
returns-in_err-push-clause-stopped g c = λ _.
    one_more g.R.ReadOnce.reads _ c.loop-reader.reader _ c.loop-reader.invariant.well (rw c.in-Some.is at c.in_ok-octet.ensures.well)
