use Rattle.std.proofs.Common.{◌∙◌, refl, sym}
use Rattle.itip_words.specs.Options.{options_of}
use Rattle.itip_words.proofs.Nothing.{never_explained}
use Rattle.itip_words.proofs.filter.explanation_of.Goals as goal

pub returns-in-Some : goal.returns-in-Some
returns-in-Some c = λ clock. (refl, c.in_ok-uid.ensures ∙ c.in-Some.is)

pub returns-in-None : goal.returns-in-None
returns-in-None c = λ clock. never_explained (options_of c.args.words.now) clock (sym (c.in_ok-uid.ensures ∙ c.in-None.is))
