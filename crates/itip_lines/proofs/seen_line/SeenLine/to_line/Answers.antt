use Rattle.std.proofs.Common.{◌∙◌}
use Rattle.itip_lines.proofs.ParamTexts.{is_params_text}
use Rattle.itip_lines.proofs.SameLine.{same_line, lawful_copy}
use Rattle.itip_lines.proofs.seen_line.SeenLine.to_line.Goals as goal

pub from_text-requires : goal.from_text-requires
from_text-requires c =
    is_params_text _ c.args.self.now.params c.params.ensures.lawful (c.in_ok-params.ensures.items ∙ c.as_bytes.ensures.value ∙
    c.params.ensures.text)

pub returns : goal.returns
returns c =
    same_line _ c.args.self.now (c.in_ok-name.ensures.copied ∙ c.name.ensures)
    (c.from_text.ensures c.args.self.now.params c.params.ensures.lawful (c.in_ok-params.ensures.items ∙ c.as_bytes.ensures.value ∙
    c.params.ensures.text))
    (c.in_ok-value.ensures.copied ∙ c.value.ensures)

pub invariant_of-result : goal.invariant_of-result
invariant_of-result c = record {
  lawful = lawful_copy c.args.self.now _ _ _ (c.in_ok-name.ensures.copied ∙ c.name.ensures)
      (c.from_text.ensures c.args.self.now.params c.params.ensures.lawful (c.in_ok-params.ensures.items ∙ c.as_bytes.ensures.value ∙
      c.params.ensures.text))
      (c.in_ok-value.ensures.copied ∙ c.value.ensures);
}
