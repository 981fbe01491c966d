use Rattle.std.proofs.Common.{◌∷◌, [], ℕ, List, sym, subst}
use Rattle.std.specs.Prelude.{codes}
use Rattle.itip_lines.specs.Lawful.{IsLawfulParam}
use Rattle.itip_writing.proofs.Partstats.{partstat_param}
use Rattle.itip_writing.proofs.reply.answer_line.Goals as goal

pub one-requires : goal.one-requires
one-requires c =
    subst (λ (value : List ℕ). IsLawfulParam (record { name = codes "PARTSTAT"; values = value ∷ [] })) (sym c.as_str.ensures)
    (partstat_param c.args.status)
