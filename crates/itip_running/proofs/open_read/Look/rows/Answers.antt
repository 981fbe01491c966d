use Rattle.std.proofs.Common.{rules}
use Rattle.itip_state.proofs.Members.{if_ok_then}
use Rattle.itip_desk.specs.HeardSteps.{heard}
use Rattle.itip_view.specs.Rows.{AreRows}
use Rattle.itip_view.proofs.SameRows.{many_of_same_rows}
use Rattle.itip_running.specs.ContractViews.{reader_seen}
use Rattle.itip_running.specs.Parts.{HasRowsOf}
use Rattle.itip_running.proofs.Seeing.{rows_there}
use Rattle.itip_running.proofs.open_read.Look.rows.Goals as goal

pub returns-in-Ok-clause-rows : goal.returns-in-Ok-clause-rows
returns-in-Ok-clause-rows c =
    let part = c.in-Ok.part in
    let all = heard (reader_seen c.part_in-end.result.0) in
    let same : HasRowsOf part all c.args.window = search rules in
    if_ok_then (λ rows. AreRows part c.args.window rows.items) (λ rows. AreRows all c.args.window rows.items) c.rows_in-rows.result
    (λ rows are. rows_there part all c.args.window same rows.items are)
    c.rows_in-rows.ensures.rows

pub returns-in-Ok-clause-many : goal.returns-in-Ok-clause-many
returns-in-Ok-clause-many c e =
    let part = c.in-Ok.part in
    let all = heard (reader_seen c.part_in-end.result.0) in
    let same : HasRowsOf part all c.args.window = search rules in
    many_of_same_rows part all c.args.window same (c.rows_in-rows.ensures.many e)
