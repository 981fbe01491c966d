use Rattle.std.proofs.lemmas.Bool.Decides.{Decides-eqb}
use Rattle.std.proofs.lemmas.Slice.Eq.{strip_prefix_is}
use Rattle.itip_desk.proofs.FileNumbers.{if_found, if_none}
use Rattle.itip_desk.proofs.fronts.behind.Goals as goal

pub returns-clause-found : goal.returns-clause-found
returns-clause-found c =
    if_found c.strip_prefix.result _ _
    (strip_prefix_is Decides-eqb c.args.octets.now c.args.begins.now c.strip_prefix.result c.strip_prefix.ensures.cases)

pub returns-clause-none : goal.returns-clause-none
returns-clause-none c =
    if_none c.strip_prefix.result _ _
    (strip_prefix_is Decides-eqb c.args.octets.now c.args.begins.now c.strip_prefix.result c.strip_prefix.ensures.cases)
