use Rattle.std.proofs.Common.{rules}
use Rattle.itip_state.proofs.Members.{if_ok_then}
use Rattle.itip_desk.specs.HeardSteps.{heard}
use Rattle.itip_view.specs.Showing.{Shows, AreRowsWhere}
use Rattle.itip_view.proofs.SameRows.{many_for_of_same_rows}
use Rattle.itip_running.specs.ContractViews.{reader_seen}
use Rattle.itip_running.specs.Parts.{HasRowsFor}
use Rattle.itip_running.proofs.Seeing.{rows_for_there}
use Rattle.itip_running.proofs.open_read.Look.rows_for.Goals as goal

pub returns-in-Ok-clause-rows : goal.returns-in-Ok-clause-rows
returns-in-Ok-clause-rows c =
    let part = c.in-Ok.part in
    let address = c.args.address.now in
    let all = heard (reader_seen c.part_naming-end.result.0) in
    let same : HasRowsFor address part all = search rules in
    if_ok_then (λ rows. AreRowsWhere (Shows address) part c.args.window rows.items)
    (λ rows. AreRowsWhere (Shows address) all c.args.window rows.items) c.rows_for-rows.result
    (λ rows are. rows_for_there address part all c.args.window same rows.items are)
    c.rows_for-rows.ensures.rows

pub returns-in-Ok-clause-many : goal.returns-in-Ok-clause-many
returns-in-Ok-clause-many c e =
    let part = c.in-Ok.part in
    let address = c.args.address.now in
    let all = heard (reader_seen c.part_naming-end.result.0) in
    let same : HasRowsFor address part all = search rules in
    many_for_of_same_rows address part all c.args.window (same c.args.window) (c.rows_for-rows.ensures.many e)
