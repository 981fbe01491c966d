use Rattle.std.proofs.Common.{◌∙◌, ap, sym}
use Rattle.std.specs.Prelude.{cond, Some, None}
use Rattle.itip_report.specs.Tally.{rows_before}
use Rattle.itip_report.proofs.Tallying.{equal_test, apart_test}
use Rattle.itip_report.proofs.load.rows_before.Goals as goal

pub returns-then-seen-place : goal.returns-then-seen-place
returns-then-seen-place c =
    sym (ap (λ b. cond b None (Some c.in-Some.seen.now.rows)) (equal_test c.in-Some.seen.now.last c.args.place c.if-seen-place.true))
    ∙ ap (rows_before c.args.place) c.in-Some.ensures.value

pub returns-else-seen-place : goal.returns-else-seen-place
returns-else-seen-place c =
    sym (ap (λ b. cond b None (Some c.in-Some.seen.now.rows)) (apart_test c.in-Some.seen.now.last c.args.place c.if-seen-place.false))
    ∙ ap (rows_before c.args.place) c.in-Some.ensures.value
