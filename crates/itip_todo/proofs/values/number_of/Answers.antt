use Rattle.std.proofs.Common.{ℕ, List, refl, sym, subst}
use Rattle.itip_todo.specs.Values.{IsNumberUpTo}
use Rattle.itip_todo.proofs.values.number_of.Goals as goal

pub returns-in-None-clause-cause : goal.returns-in-None-clause-cause
returns-in-None-clause-cause c =
    rw c.bad_value.ensures (
      refl,
      λ n is. c.in-None.ensures.none n
          (subst (λ (t : List ℕ). IsNumberUpTo c.args.limit t n) (sym c.value.ensures) is),
    )
