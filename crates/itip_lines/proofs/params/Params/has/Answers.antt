use Rattle.std.proofs.Common.{◌∙◌}
use Rattle.itip_lines.proofs.Found.{all_stand, found_tells}
use Rattle.itip_lines.proofs.params.Params.has.Goals as goal

pub returns : goal.returns
returns c =
    c.is_some.ensures ∙ found_tells c.args.name.now c.args.self.now c.values_of.result
    (c.values_of.ensures c.args.self.now (all_stand _ c.args.self.now _ c.as_str.ensures.lawful (c.as_bytes.ensures.value ∙
    c.as_str.ensures.text)))
