use Rattle.std.proofs.Common.{◌∙◌, subst, Option, Some}
use Rattle.std.specs.Prelude.{IfSome, option_copied}
use Rattle.std.specs.BTreeSet.{contains}
use Rattle.std.specs.Ordering.{eq_by_cmp}
use Rattle.itip_moment.specs.Order.{moment_cmp}
use Rattle.itip_moment.specs.Spelling.{MomentText}
use Rattle.itip_moment.specs.Zone.{zone_text}
use Rattle.itip_moment.specs.declared.moment.Moment.{Moment}
use Rattle.itip_todo.proofs.Putting.{cond_or}
use Rattle.itip_todo.proofs.list.put_moment.Goals as goal

pub returns-clause-put : goal.returns-clause-put
returns-clause-put c = record {
  moment = c.in-Some.moment;
  is = subst (λ (o : Option Moment). IfSome o (MomentText c.args.text.now (Some (zone_text (option_copied c.args.zone))))) c.in-Some.is
      c.in_ok-moment.ensures.found;
  each = λ m. c.in_ok-insert.ensures.updates.0 m ∙ cond_or (eq_by_cmp moment_cmp c.in-Some.moment m) (contains moment_cmp c.args.set.now m);
}
