use Rattle.std.proofs.Common.{sym, ◌∙◌}
use Rattle.std.specs.List.{list_any}
use Rattle.itip_recur.specs.RuleText.{has_name, part_names}
use Rattle.itip_recur.proofs.Rests.{all_fails, all_more}
use Rattle.itip_recur.proofs.parts.are_named.Goals as goal

pub returns-then-not-has_some_name : goal.returns-then-not-has_some_name
returns-then-not-has_some_name c =
    sym (c.loop-part.invariant ∙ all_fails (λ part. list_any (λ name. has_name name part) part_names) c.args.parts.now
    c.loop-part.part-index _ c.loop-part-test.true (sym c.has_some_name.ensures ∙ c.if-not-has_some_name.true))

pub loop-part-preserved : goal.loop-part-preserved
loop-part-preserved c = c.loop-part.invariant ∙
    all_more (λ part. list_any (λ name. has_name name part) part_names) c.args.parts.now c.loop-part.part-index _ c.loop-part-test.true
    (sym c.has_some_name.ensures ∙ c.if-not-has_some_name.false)
