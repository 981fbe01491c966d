use Rattle.itip_report.proofs.Nothing.{progress_at}
use Rattle.itip_report.proofs.records.progress_records.Goals as goal

pub returns-in_err-push-clause-succeeds : goal.returns-in_err-push-clause-succeeds
returns-in_err-push-clause-succeeds c = λ none.
    absurd (progress_at c.args.rows.now c.loop-row.row-index c.row-item.result c.in-Some.percent c.loop-row-test.true c.row-item.is
    c.in-Some.is none)
