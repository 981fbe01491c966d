use Rattle.std.proofs.Common.{◌∙◌, ap}
use Rattle.std.specs.Prelude.{is_some}
use Rattle.itip_words.proofs.Asking.{some_copied}
use Rattle.itip_words.proofs.options.is_given.Goals as goal

pub returns : goal.returns
returns c = c.is_some.ensures ∙ some_copied c.value_of.result ∙ ap is_some c.value_of.ensures
