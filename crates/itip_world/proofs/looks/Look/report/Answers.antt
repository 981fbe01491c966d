use Rattle.std.proofs.Common.{List, map, subst, sym}
use Rattle.std.specs.String.{string_bytes}
use Rattle.itip_items.specs.declared.item.Item.{Item}
use Rattle.itip_view.specs.ByUid.{IsCountOf}
use Rattle.itip_report.specs.Named.{IsReportOf, AreRowsFor}
use Rattle.itip_report.proofs.NamedReports.{has_rows_for, of_rows_if_many, too_many_for}
use Rattle.itip_world.specs.Looking.Looks.{reports_lines, reports_too_many, reports_no_desk}
use Rattle.itip_world.proofs.looks.Look.report.Goals as goal

pub returns-in_default-clause-answers : goal.returns-in_default-clause-answers
returns-in_default-clause-answers c =
    reports_no_desk c.args.desk c.args.name c.in_default.ensures

pub returns-in_ok-lines-in-Few-clause-answers : goal.returns-in_ok-lines-in-Few-clause-answers
returns-in_ok-lines-in-Few-clause-answers c =
    let asked = c.args.self.now in
    let few = subst (IsCountOf c.in_ok-rows.rows) c.in-Few.is c.in_ok-count.ensures.count in
    let lines = map string_bytes c.in_ok-lines-in-Few.lines.items in
    reports_lines c.args.desk c.args.name c.in-Some.asked.now lines c.in-Some.ensures
    (subst (λ (items : List Item). IsReportOf c.args.name items asked.window lines) c.state.ensures
    (c.in_ok-lines-in-Few.ensures.lines asked.window few.rows few.are_left
    (has_rows_for c.args.name c.state.result.now asked.window c.in_ok-rows.rows
    (subst (λ (items : List Item). AreRowsFor c.args.name items asked.window c.in_ok-rows.rows) (sym c.state.ensures) c.in_ok-rows.ensures)
    c.in-Few.field-0 few)))

pub returns-in-TooMany-clause-answers : goal.returns-in-TooMany-clause-answers
returns-in-TooMany-clause-answers c =
    let asked = c.args.self.now in
    let kept = c.in-Some.asked.now.kept in
    let many = (subst (IsCountOf c.in_ok-rows.rows) c.in-TooMany.is c.in_ok-count.ensures.count).0 in
    let of_rows = of_rows_if_many c.args.name kept asked.window c.in_ok-rows.rows c.in_ok-rows.ensures many in
    reports_too_many c.args.desk c.args.name c.in-Some.asked.now of_rows c.in-Some.ensures
    (too_many_for c.args.name kept asked.window c.in_ok-rows.rows c.in_ok-rows.ensures many of_rows)
