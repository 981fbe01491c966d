use Rattle.std.proofs.Common.{arith}
use Rattle.itip_streams.proofs.LineReading.{none_read, one_read}
use Rattle.itip_streams.proofs.InARow.{gave_none, gave_some}
use Rattle.itip_streams.proofs.input.read_octet.Goals as goal

pub returns-then-branch-eq0-clause-reads : goal.returns-then-branch-eq0-clause-reads
returns-then-branch-eq0-clause-reads g c =
    none_read _ _ _ _ c.in_ok-read_some.ensures.bytes.0 c.in_ok-read_some.ensures.bytes.1 c.if-branch-eq0.true (omega arith)

pub returns-then-branch-eq0-clause-well : goal.returns-then-branch-eq0-clause-well
returns-then-branch-eq0-clause-well g c =
    gave_none g.R.ReadOnce.reads _ _ _ _ c.in_ok-read_some.ensures.once c.if-branch-eq0.true

pub returns-clause-reads : goal.returns-clause-reads
returns-clause-reads g c =
    one_read _ _ _ _ c.in_ok-read_some.ensures.bytes.0 c.if-branch-eq0.false c.in_ok-read_some.ensures.bound (omega arith)

pub returns-clause-well : goal.returns-clause-well
returns-clause-well g c = gave_some g.R.ReadOnce.reads _ _ _ _ c.in_ok-read_some.ensures.once c.if-branch-eq0.false
