use Rattle.std.proofs.Common.{rules}
use Rattle.itip_state.proofs.Members.{if_ok_then}
use Rattle.itip_desk.specs.HeardSteps.{heard}
use Rattle.itip_view.specs.ListText.{IsListText}
use Rattle.itip_view.proofs.SameRows.{text_of_same_rows, many_of_same_rows}
use Rattle.itip_running.specs.ContractViews.{reader_seen}
use Rattle.itip_running.specs.Parts.{HasRowsOf}
use Rattle.itip_running.proofs.open_read.Look.list.Goals as goal

pub returns-in-Ok-clause-text : goal.returns-in-Ok-clause-text
returns-in-Ok-clause-text c =
    let part = c.in-Ok.part in
    let all = heard (reader_seen c.part_in-end.result.0) in
    let same : HasRowsOf part all c.args.window = search rules in
    if_ok_then (λ text. IsListText part c.args.window text.items) (λ text. IsListText all c.args.window text.items) c.text_in-text.result
    (λ text is. text_of_same_rows part all c.args.window same text.items is)
    c.text_in-text.ensures.text

pub returns-in-Ok-clause-many : goal.returns-in-Ok-clause-many
returns-in-Ok-clause-many c e =
    let part = c.in-Ok.part in
    let all = heard (reader_seen c.part_in-end.result.0) in
    let same : HasRowsOf part all c.args.window = search rules in
    many_of_same_rows part all c.args.window same (c.text_in-text.ensures.many e)
