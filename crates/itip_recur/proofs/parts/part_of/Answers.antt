use Rattle.std.proofs.Common.{sym, ◌∙◌}
use Rattle.itip_recur.specs.RuleText.{has_name}
use Rattle.itip_recur.proofs.Rests.{find_here, find_more}
use Rattle.itip_recur.proofs.parts.part_of.Goals as goal

pub returns-then-has_name : goal.returns-then-has_name
returns-then-has_name c =
    sym (c.loop-part.invariant ∙ find_here (has_name c.args.name.now) c.args.parts.now c.loop-part.part-index _ c.loop-part-test.true
    (sym c.has_name.ensures ∙ c.if-has_name.true))

pub loop-part-preserved : goal.loop-part-preserved
loop-part-preserved c = c.loop-part.invariant ∙
    find_more (has_name c.args.name.now) c.args.parts.now c.loop-part.part-index _ c.loop-part-test.true (sym c.has_name.ensures ∙
    c.if-has_name.false)
