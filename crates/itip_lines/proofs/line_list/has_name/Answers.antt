use Rattle.std.proofs.Common.{◌∙◌, ℕ, List, ap}
use Rattle.itip_lines.specs.LineTexts.{name_in}
use Rattle.itip_lines.specs.Lookup.{same_text}
use Rattle.itip_lines.proofs.LineLists.{name_cut}
use Rattle.itip_lines.proofs.line_list.has_name.Goals as goal

pub returns : goal.returns
returns c =
    c.is_named.ensures ∙ ap (λ (name : List ℕ). same_text name c.args.name.now)
    (name_cut c.as_bytes.result.now c.cut_run.result.0.now c.cut_run.result.1.now c.cut_run.ensures ∙ ap name_in c.as_bytes.ensures.value)
