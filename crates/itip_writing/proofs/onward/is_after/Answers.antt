use Rattle.std.proofs.Common.{◌≡◌, ◌∙◌, ap, sym, true, false}
use Rattle.std.specs.Ordering.{is_gt}
use Rattle.itip_writing.proofs.EndsTold.{after_where}
use Rattle.itip_writing.proofs.onward.is_after.Goals as goal

pub returns-then-have_one_form : goal.returns-then-have_one_form
returns-then-have_one_form c =
    after_where c.args.from.now c.args.at.now (c.have_one_form.ensures.0 c.if-have_one_form.true) c.is_gt.result
    (c.is_gt.ensures ∙ ap is_gt c.cmp.ensures)

pub returns-else-have_one_form : goal.returns-else-have_one_form
returns-else-have_one_form c = (
  λ e. absurd cc,
  λ is. let x : true ≡ false = sym (c.have_one_form.ensures.1 is.one_form) ∙ c.if-have_one_form.false in absurd cc,
)
