use Rattle.std.proofs.Common.{◌∙◌, ap, refl, inl, inr}
use Rattle.std.specs.Ordering.{is_lt}
use Rattle.itip_writing.proofs.Answering.{is_earlier, not_earlier}
use Rattle.itip_writing.proofs.stamping.stamp_behind.Goals as goal

pub returns-then-is_lt-clause-stamp : goal.returns-then-is_lt-clause-stamp
returns-then-is_lt-clause-stamp c =
    inl (is_earlier c.args.latest c.args.at c.is_lt.result (c.is_lt.ensures ∙ ap is_lt c.cmp.ensures) c.if-is_lt.true, refl)

pub returns-in-Some-clause-stamp : goal.returns-in-Some-clause-stamp
returns-in-Some-clause-stamp c =
    inr (not_earlier c.args.latest c.args.at c.is_lt.result (c.is_lt.ensures ∙ ap is_lt c.cmp.ensures) c.if-is_lt.false, c.in-Some.ensures)

pub returns-in-None-clause-spent : goal.returns-in-None-clause-spent
returns-in-None-clause-spent c = (
  not_earlier c.args.latest c.args.at c.is_lt.result (c.is_lt.ensures ∙ ap is_lt c.cmp.ensures) c.if-is_lt.false,
  c.in-None.ensures,
)
