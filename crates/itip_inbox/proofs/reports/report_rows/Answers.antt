use Rattle.std.proofs.Common.{◌≡◌, ◌∙◌, sym, true, false}
use Rattle.itip_state.proofs.Members.{if_ok_then}
use Rattle.itip_view.specs.ByUid.{AreAsked}
use Rattle.itip_view.specs.Wanting.{Wants}
use Rattle.itip_view.specs.declared.row.Row.{Row}
use Rattle.itip_report.proofs.NamedReports.{rows_of_report, no_rows_of_report}
use Rattle.itip_inbox.proofs.reports.report_rows.Goals as goal

pub returns-then-is_of_rows : goal.returns-then-is_of_rows
returns-then-is_of_rows c =
    let kept = c.args.state.now in
    rows_of_report c.args.name kept c.args.window c.of.result (c.is_of_rows.ensures.0 c.if-is_of_rows.true)
    (if_ok_then (AreAsked (Wants c.all.result) kept c.args.window) (AreAsked (λ (row : Row). Unit {0}) kept c.args.window) c.of.result
    (λ asked is. record {
      state_is = is.state_is;
      window_is = is.window_is;
      alike = λ row there. (λ wanted. tt, λ _. (is.alike row there).1 (c.all.ensures row));
    }) c.of.ensures.asked)

pub returns-else-is_of_rows : goal.returns-else-is_of_rows
returns-else-is_of_rows c =
    no_rows_of_report c.args.name c.args.state.now c.args.window c.no_rows.result
    (λ of_rows. let same : true ≡ false = sym (c.is_of_rows.ensures.1 of_rows) ∙ c.if-is_of_rows.false in absurd cc) c.no_rows.ensures
