use Rattle.std.proofs.Common.{◌∙◌, ◌∷◌, ◌++◌, [], ℕ, List, ap}
use Rattle.itip_lines.specs.Lawful.{params_text}
use Rattle.itip_lines.specs.declared.line.Param.{Param}
use Rattle.itip_lines.proofs.ParamTexts.{is_params_text}
use Rattle.itip_lines.proofs.params.Params.one.Goals as goal

pub from_text-requires : goal.from_text-requires
from_text-requires c =
    let params : List Param = (record { name = c.args.name.now; values = c.args.value.now ∷ [] }) ∷ [] in
    is_params_text _ params (c.requires, tt)
    (c.in_ok-write_param.ensures.appended ∙ ap (λ (t : List ℕ). t ++ params_text params) c.new-text.ensures.items)

pub returns : goal.returns
returns c =
    let params : List Param = (record { name = c.args.name.now; values = c.args.value.now ∷ [] }) ∷ [] in
    c.from_text.ensures params (c.requires, tt)
    (c.in_ok-write_param.ensures.appended ∙ ap (λ (t : List ℕ). t ++ params_text params) c.new-text.ensures.items)
