use Rattle.std.proofs.Common.{inl, inr}
use Rattle.itip_script.proofs.Wishes.{passed_body, cut_body}
use Rattle.itip_script.proofs.body.pass_body.Goals as goal

pub returns-then-all-clause-reads : goal.returns-then-all-clause-reads
returns-then-all-clause-reads g c = λ limit long.
    passed_body limit c.args.octets (g.R.Read.remaining c.args.reader.now) (g.R.Read.remaining c.pass_octets.new.reader) long
    (rw c.if-all.true at c.in_ok-all.ensures.passes)

pub returns-else-all-clause-reads : goal.returns-else-all-clause-reads
returns-else-all-clause-reads g c = λ limit long.
    cut_body limit c.args.octets (g.R.Read.remaining c.args.reader.now) (g.R.Read.remaining c.pass_octets.new.reader)
    (rw c.if-all.false at c.in_ok-all.ensures.passes)

pub returns-then-all-clause-well : goal.returns-then-all-clause-well
returns-then-all-clause-well g c = inr (rw c.if-all.true at c.in_ok-all.ensures.well)

pub returns-else-all-clause-well : goal.returns-else-all-clause-well
returns-else-all-clause-well g c = inl (rw c.if-all.false at c.in_ok-all.ensures.well)
