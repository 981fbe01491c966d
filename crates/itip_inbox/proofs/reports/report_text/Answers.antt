use Rattle.std.proofs.Common.{◌≡◌, ◌∙◌, List, map, ap}
use Rattle.std.specs.List.{flat_map}
use Rattle.std.specs.String.{string_bytes}
use Rattle.itip_state.proofs.Members.{if_ok_then}
use Rattle.itip_view.specs.ByUid.{AreLeft}
use Rattle.itip_view.specs.declared.row.Row.{Row}
use Rattle.itip_view.specs.declared.window.Window.{Window}
use Rattle.itip_report.specs.Named.{HasRowsFor}
use Rattle.itip_inbox.specs.Reports.{ended, IsReportText}
use Rattle.itip_inbox.proofs.reports.report_text.Goals as goal

pub returns : goal.returns
returns c =
    if_ok_then (λ text. text.items ≡ flat_map ended (map string_bytes c.as_slice.result.now))
    (λ text. (window : Window) (all : List Row) → AreLeft c.args.rows all → HasRowsFor c.args.name c.args.state.now window all →
    IsReportText c.args.name c.args.state.now window text.items) c.ended_lines.result
    (λ text is window all left has. record {
      lines = map string_bytes c.in_ok-lines.lines.items;
      are_lines = c.in_ok-lines.ensures.lines window all left has;
      text_is = is ∙ ap (λ lines. flat_map ended (map string_bytes lines)) c.as_slice.ensures.value;
    })
    c.ended_lines.ensures
