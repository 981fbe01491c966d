use Rattle.std.proofs.Common.{rules}
use Rattle.itip_state.proofs.Members.{if_ok_then}
use Rattle.itip_desk.specs.HeardSteps.{heard}
use Rattle.itip_view.specs.Showing.{IsListTextFor}
use Rattle.itip_view.proofs.SameRows.{text_for_of_same_rows, many_for_of_same_rows}
use Rattle.itip_running.specs.ContractViews.{reader_seen}
use Rattle.itip_running.specs.Parts.{HasRowsFor}
use Rattle.itip_running.proofs.open_read.Look.list_for.Goals as goal

pub returns-in-Ok-clause-text : goal.returns-in-Ok-clause-text
returns-in-Ok-clause-text c =
    let part = c.in-Ok.part in
    let address = c.args.address.now in
    let all = heard (reader_seen c.part_naming-end.result.0) in
    let same : HasRowsFor address part all = search rules in
    if_ok_then (λ text. IsListTextFor address part c.args.window text.items) (λ text. IsListTextFor address all c.args.window text.items)
    c.text_for-text.result (λ text is. text_for_of_same_rows address part all c.args.window (same c.args.window) text.items is)
    c.text_for-text.ensures.text

pub returns-in-Ok-clause-many : goal.returns-in-Ok-clause-many
returns-in-Ok-clause-many c e =
    let part = c.in-Ok.part in
    let address = c.args.address.now in
    let all = heard (reader_seen c.part_naming-end.result.0) in
    let same : HasRowsFor address part all = search rules in
    many_for_of_same_rows address part all c.args.window (same c.args.window) (c.text_for-text.ensures.many e)
