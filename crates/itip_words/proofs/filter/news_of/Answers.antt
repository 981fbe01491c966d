use Rattle.std.proofs.Common.{◌∙◌, Some, ap, sym, refl}
use Rattle.itip_words.specs.Options.{options_of}
use Rattle.itip_words.proofs.Nothing.{never_news}
use Rattle.itip_words.proofs.filter.news_of.Goals as goal

pub returns-in_default : goal.returns-in_default
returns-in_default c = λ clock. never_news (options_of c.args.words.now) clock c.in_default.ensures

pub returns : goal.returns
returns c = λ clock. (refl, sym c.in-Some.ensures ∙ ap Some (sym c.in_ok-than.ensures))
