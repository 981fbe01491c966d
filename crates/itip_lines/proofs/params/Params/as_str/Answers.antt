use Rattle.std.proofs.Common.{◌∙◌, List, sym, ap, subst}
use Rattle.std.specs.List.{AllByRecursion}
use Rattle.std.specs.Str.{IsUtf8}
use Rattle.itip_lines.specs.Lawful.{params_text, IsLawfulParam}
use Rattle.itip_lines.specs.ParamsText.{params_in}
use Rattle.itip_lines.specs.declared.line.Param.{Param}
use Rattle.itip_lines.proofs.Roundtrip.{utf8_params}
use Rattle.itip_lines.proofs.params.Params.as_str.Goals as goal

pub from_utf8_unchecked-requires : goal.from_utf8_unchecked-requires
from_utf8_unchecked-requires c =
    subst IsUtf8 (sym (c.as_slice.ensures ∙ c.self.invariant.text_is)) (utf8_params (params_in c.self.inside.octets) c.self.invariant.each)

pub returns-clause-text : goal.returns-clause-text
returns-clause-text c =
    c.from_utf8_unchecked.ensures ∙ c.as_slice.ensures ∙ c.self.invariant.text_is ∙
    ap (λ (ps : List Param). params_text ps) c.self.view_is

pub returns-clause-lawful : goal.returns-clause-lawful
returns-clause-lawful c = subst (λ (ps : List Param). AllByRecursion IsLawfulParam ps) c.self.view_is c.self.invariant.each
