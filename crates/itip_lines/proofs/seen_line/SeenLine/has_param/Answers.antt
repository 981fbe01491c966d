use Rattle.std.proofs.Common.{◌∙◌}
use Rattle.itip_lines.proofs.Found.{all_stand, found_tells}
use Rattle.itip_lines.proofs.seen_line.SeenLine.has_param.Goals as goal

pub returns : goal.returns
returns c =
    c.is_some.ensures ∙ found_tells c.args.name.now c.args.self.now.params c.values_of.result
    (c.values_of.ensures c.args.self.now.params (all_stand _ c.args.self.now.params _ c.params.ensures.lawful (c.as_bytes.ensures.value ∙
    c.params.ensures.text)))
