use Rattle.std.proofs.Common.{◌∙◌, List, ap}
use Rattle.itip_lines.specs.Lookup.{param_value}
use Rattle.itip_lines.specs.declared.line.Param.{Param}
use Rattle.itip_lines.proofs.ParamTexts.{params_are, is_params_text}
use Rattle.itip_lines.proofs.seen_line.SeenLine.first_value.Goals as goal

pub param_value-requires : goal.param_value-requires
param_value-requires c = is_params_text _ c.args.self.now.params c.params.ensures.lawful c.params.ensures.text

pub returns : goal.returns
returns c =
    c.param_value.ensures ∙ ap (λ (ps : List Param). param_value c.args.name.now ps)
    (params_are _ c.args.self.now.params c.params.ensures.lawful c.params.ensures.text)
