use Rattle.std.proofs.Common.{subst}
use Rattle.itip_view.specs.ByUid.{IsCountOf}
use Rattle.itip_view.proofs.Left.{few_left}
use Rattle.itip_running.proofs.outside.are_too_many.Goals as goal

pub returns-in-Ok-Few-clause-few : goal.returns-in-Ok-Few-clause-few
returns-in-Ok-Few-clause-few c = λ _ all are.
    few_left c.args.rows.now _ (subst (IsCountOf c.args.rows.now) c.in-Ok-Few.field-0-is c.in-Ok-Few.ensures.count) all are

pub returns-in-Ok-TooMany-clause-many : goal.returns-in-Ok-TooMany-clause-many
returns-in-Ok-TooMany-clause-many c = λ _.
    (subst (IsCountOf c.args.rows.now) c.in-Ok-TooMany.field-0-is c.in-Ok-TooMany.ensures.count).0
