use Rattle.std.proofs.Common.{◌∙◌, Some, ap, sym, refl}
use Rattle.itip_words.specs.Options.{options_of}
use Rattle.itip_words.proofs.Messages.{never_request}
use Rattle.itip_words.proofs.asked.request_of.Goals as goal

pub returns-in_default : goal.returns-in_default
returns-in_default c = never_request (options_of c.args.words.now) c.in_default.ensures

pub returns : goal.returns
returns c = (refl, sym c.in-Some.ensures ∙ ap Some (sym c.in_ok-draft.ensures.ok))
