use Rattle.std.proofs.Common.{◌≡◌, List, subst}
use Rattle.std.specs.Prelude.{IfOk}
use Rattle.itip_lines.specs.declared.line.Param.{Param}
use Rattle.itip_lines.proofs.ParamTexts.{params_are, is_params_text}
use Rattle.itip_todo.proofs.property.Property.new.Goals as goal

pub copied-requires : goal.copied-requires
copied-requires c = is_params_text _ c.args.params.now c.as_str.ensures.lawful c.as_str.ensures.text

pub returns : goal.returns
returns c =
    subst (λ (ps : List Param). IfOk c.copied.result (λ p. p ≡ record { params = ps; value = c.args.value.now }))
    (params_are _ c.args.params.now c.as_str.ensures.lawful c.as_str.ensures.text) c.copied.ensures
