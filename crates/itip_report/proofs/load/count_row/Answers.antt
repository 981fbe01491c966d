use Rattle.std.proofs.Common.{arith}
use Rattle.itip_report.proofs.Tallying.{row_tallied}
use Rattle.itip_report.proofs.load.count_row.Goals as goal

pub returns-in_default-clause-counted : goal.returns-in_default-clause-counted
returns-in_default-clause-counted c = λ done few are. absurd (c.in_default.ensures (omega (arith, few, are.rows_are)))

pub returns-clause-counted : goal.returns-clause-counted
returns-clause-counted c = λ done few are.
    row_tallied done c.args.row.now c.args.tally.now _ are c.in_ok-count_attendees.ensures.counted c.in-Some.ensures.1
