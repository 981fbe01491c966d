use Rattle.std.proofs.Common.{sym, subst}
use Rattle.itip_inbox.specs.declared.explained.Explained.{Explained}
use Rattle.itip_app.specs.Filtered.{IsOutcomeOfExplained}
use Rattle.itip_app.proofs.Filtering.{on_err}
use Rattle.itip_app.proofs.filters.write_explanation.Goals as goal

pub returns-in_err-is_refused-clause-front : goal.returns-in_err-is_refused-clause-front
returns-in_err-is_refused-clause-front g c = on_err c.from_residual.result c.in_err-is_refused.ensures.front

pub returns-in-Told-clause-output : goal.returns-in-Told-clause-output
returns-in-Told-clause-output g c = λ inputs are. record {
  told = c.in_ok-is_refused.field-0;
  explains = c.in_ok-is_refused.ensures.output inputs are;
  outcome_is = subst (λ (told : Explained). IsOutcomeOfExplained told c.done_with.result) (sym c.in-Told.is)
      (c.done_with.ensures.refused, c.done_with.ensures.whole, c.done_with.ensures.is_done);
}

pub returns-in-Unknown-clause-output : goal.returns-in-Unknown-clause-output
returns-in-Unknown-clause-output g c = λ inputs are. record {
  told = c.in_ok-is_refused.field-0;
  explains = c.in_ok-is_refused.ensures.output inputs are;
  outcome_is = subst (λ (told : Explained). IsOutcomeOfExplained told c.nothing_done.result) (sym c.in-Unknown.is) c.nothing_done.ensures;
}
