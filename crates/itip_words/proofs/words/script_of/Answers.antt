use Rattle.std.proofs.Common.{◌∙◌, sym}
use Rattle.std.specs.Prelude.{codes}
use Rattle.itip_words.specs.Options.{options_of, values_of}
use Rattle.itip_words.proofs.Asking.{script_run}
use Rattle.itip_words.proofs.Finding.{none_there, some_there}
use Rattle.itip_words.proofs.words.script_of.Goals as goal

pub returns-then-has_values-clause-found : goal.returns-then-has_values-clause-found
returns-then-has_values-clause-found c = λ scripted asks.
    some_there (values_of (codes "load") (options_of c.args.words.now)) (sym c.has_values.ensures ∙ c.if-has_values.true) asks.no_loads

pub returns-clause-found : goal.returns-clause-found
returns-clause-found c =
    script_run (options_of c.args.words.now) c.scripted_of.result
    (none_there (values_of (codes "load") (options_of c.args.words.now)) (sym c.has_values.ensures ∙ c.if-has_values.false))
    c.scripted_of.ensures.asked c.scripted_of.ensures.none
