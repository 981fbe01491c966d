use Rattle.std.proofs.Common.{◌∙◌, ap, refl}
use Rattle.itip_words.specs.Asking.{file_named}
use Rattle.itip_words.proofs.filter.compaction_of.Goals as goal

pub returns : goal.returns
returns c = λ clock. (refl, c.in_ok-output.ensures ∙ ap file_named c.value_of-name.ensures)
