use Rattle.itip_recur.proofs.Cuts.{few_parts}
use Rattle.itip_recur.proofs.read.read_rule.Goals as goal

pub returns-then-has_many_parts : goal.returns-then-has_many_parts
returns-then-has_many_parts c rule is = few_parts c.args.text.now is.lawful (c.has_many_parts.ensures.0 c.if-has_many_parts.true)
