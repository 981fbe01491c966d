use Rattle.std.proofs.Common.{◌≡◌, ◌∙◌, List, subst, sym, true, false}
use Rattle.std.specs.Prelude.{IfOk}
use Rattle.itip_items.specs.declared.item.Item.{Item}
use Rattle.itip_view.specs.ByUid.{AreAsked}
use Rattle.itip_view.specs.declared.row.Row.{Row}
use Rattle.itip_report.proofs.NamedReports.{rows_of_report, no_rows_of_report}
use Rattle.itip_world.proofs.looks.report_rows.Goals as goal

pub returns-then-is_of_rows : goal.returns-then-is_of_rows
returns-then-is_of_rows c =
    rows_of_report c.args.name c.args.desk.now.kept c.args.window c.rows.result (c.is_of_rows.ensures.0 c.if-is_of_rows.true)
    c.rows.ensures.asked

pub returns-else-is_of_rows : goal.returns-else-is_of_rows
returns-else-is_of_rows c =
    no_rows_of_report c.args.name c.args.desk.now.kept c.args.window c.no_rows.result
    (λ of_rows. let same : true ≡ false = sym (c.is_of_rows.ensures.1 of_rows) ∙ c.if-is_of_rows.false in absurd cc)
    (subst (λ (items : List Item). IfOk c.no_rows.result (AreAsked (λ (row : Row). ⊥) items c.args.window)) c.state.ensures
    c.no_rows.ensures)
