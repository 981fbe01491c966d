use Rattle.itip_explain.specs.Knowing.{told_to}
use Rattle.itip_explain.proofs.Becoming.{first_of_best}
use Rattle.itip_explain.proofs.fates.Fates.place_of.Goals as goal

pub of_key-requires-clause-heard : goal.of_key-requires-clause-heard
of_key-requires-clause-heard c = c.requires.best.is_heard

pub returns : goal.returns
returns c = first_of_best (told_to c.args.self.now) c.args.item.now c.of_key.result.now c.of_key.ensures c.requires.best
