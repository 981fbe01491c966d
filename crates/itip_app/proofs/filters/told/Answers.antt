use Rattle.std.proofs.Common.{Option, subst}
use Rattle.itip_app.specs.Status.{IsUnreadable}
use Rattle.itip_app.specs.declared.filters.Undone.{Undone}
use Rattle.itip_app.proofs.filters.told.Goals as goal

pub returns-in-Some-clause-told : goal.returns-in-Some-clause-told
returns-in-Some-clause-told g c = λ refusal unreadable.
    c.complain_undone.ensures.told refusal (subst (λ (why : Option Undone). IsUnreadable why refusal) c.in-Some.is unreadable)
