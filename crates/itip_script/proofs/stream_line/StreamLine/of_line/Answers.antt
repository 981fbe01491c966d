use Rattle.std.proofs.Common.{sym, Some, None}
use Rattle.itip_script.proofs.Wishes.{empty_said, spelled_said}
use Rattle.itip_script.proofs.stream_line.StreamLine.of_line.Goals as goal

pub returns-then-is_empty : goal.returns-then-is_empty
returns-then-is_empty c = empty_said c.args.line.now c.content-said.result.now c.content-said.ensures (sym c.if-is_empty.ensures)

pub returns-in-Some : goal.returns-in-Some
returns-in-Some c =
    spelled_said c.args.line.now c.content-said.result.now c.content-said.ensures (Some c.in-Some.asked) (sym c.if-is_empty.ensures)
    (rw c.in-Some.is at c.spelled.ensures)

pub returns-in-None : goal.returns-in-None
returns-in-None c =
    rw c.following.ensures
    (spelled_said c.args.line.now c.content-said.result.now c.content-said.ensures None (sym c.if-is_empty.ensures)
    (rw c.in-None.is at c.spelled.ensures))
