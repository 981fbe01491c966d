use Rattle.std.proofs.Common.{◌≡◌, subst}
use Rattle.std.specs.Prelude.{IfOk}
use Rattle.itip_lines.proofs.ParamTexts.{params_are, is_params_text}
use Rattle.itip_todo.specs.Properties.{Property}
use Rattle.itip_todo.proofs.property.Property.of_line.Goals as goal

pub copied-requires : goal.copied-requires
copied-requires c = is_params_text _ c.args.line.now.params c.params.ensures.lawful c.params.ensures.text

pub returns : goal.returns
returns c =
    subst (λ (q : Property). IfOk c.copied.result (λ p. p ≡ q)) (λ i. record {
      params = params_are _ c.args.line.now.params c.params.ensures.lawful c.params.ensures.text i;
      value = c.value.ensures i;
    }) c.copied.ensures
