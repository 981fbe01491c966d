use Rattle.std.proofs.Common.{ℕ, List, refl, sym, subst}
use Rattle.itip_moment.specs.Spelling.{IsStampText}
use Rattle.itip_todo.proofs.values.stamp_of.Goals as goal

pub returns-in-None-clause-cause : goal.returns-in-None-clause-cause
returns-in-None-clause-cause c =
    rw c.bad_value.ensures (
      refl,
      λ (value, is). c.in-None.ensures.none value
          (subst (λ (t : List ℕ). IsStampText t value) (sym c.value.ensures) is),
    )
