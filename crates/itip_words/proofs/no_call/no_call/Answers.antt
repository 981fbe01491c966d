use Rattle.std.proofs.Common.{◌∙◌, inl, inr, refl, sym}
use Rattle.clap.specs.Values.{kind_of}
use Rattle.itip_words.proofs.NoCalls.{no_help}
use Rattle.itip_words.proofs.no_call.no_call.Goals as goal

pub returns-in-DisplayHelp : goal.returns-in-DisplayHelp
returns-in-DisplayHelp c = (refl, inl (sym c.kind.ensures ∙ c.in-DisplayHelp.is))

pub returns-in-DisplayVersion : goal.returns-in-DisplayVersion
returns-in-DisplayVersion c = (refl, inr (sym c.kind.ensures ∙ c.in-DisplayVersion.is))

pub returns-in_ok-visible_error-in_default : goal.returns-in_ok-visible_error-in_default
returns-in_ok-visible_error-in_default c = (
  no_help (kind_of c.args.error) (λ e. c.in_default.not-DisplayHelp (c.kind.ensures ∙ e))
      (λ e. c.in_default.not-DisplayVersion (c.kind.ensures ∙ e)),
  λ e. c.in_default.not-OutOfMemory (c.kind.ensures ∙ e),
)
