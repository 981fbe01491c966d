use Rattle.std.proofs.Common.{ap, sym, subst}
use Rattle.std.specs.Option.{option_copied}
use Rattle.itip_writing.specs.Removing.{IsNoGreater, with_stamp}
use Rattle.itip_writing.specs.Stamping.{equal_stamp}
use Rattle.itip_writing.proofs.removing.with_answer.Goals as goal

pub returns-in_default-clause-latest : goal.returns-in_default-clause-latest
returns-in_default-clause-latest c =
    sym (ap (λ answer. with_stamp c.args.latest (equal_stamp c.args.sequence (option_copied answer))) c.in_default.is)

pub returns-in_default-clause-first : goal.returns-in_default-clause-first
returns-in_default-clause-first c =
    subst (λ answer. IsNoGreater c.args.sequence (option_copied answer)) (sym c.in_default.is) tt
