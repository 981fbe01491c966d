use Rattle.std.proofs.Common.{◌∙◌, sym, subst}
use Rattle.itip_lines.specs.ParamsText.{IsParamsText}
use Rattle.itip_lines.proofs.ParamTexts.{params_are}
use Rattle.itip_lines.proofs.params.Params.from_text.Goals as goal

pub invariant_of-result : goal.invariant_of-result
invariant_of-result c = subst IsParamsText (sym c.new-octets.ensures) c.requires

pub returns : goal.returns
returns c = λ params each e. params_are c.new-octets.result params each (c.new-octets.ensures ∙ e)
