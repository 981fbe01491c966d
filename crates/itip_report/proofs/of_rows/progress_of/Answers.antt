use Rattle.std.proofs.Common.{◌∙◌, List, Option, map, ap, subst}
use Rattle.std.specs.Option.{option_map}
use Rattle.std.specs.String.{string_bytes}
use Rattle.itip_view.specs.ByUid.{IsNextOf}
use Rattle.itip_view.specs.declared.row.Row.{Row}
use Rattle.itip_report.specs.Progress.{progress_lines}
use Rattle.itip_report.proofs.Mapped.{map_both}
use Rattle.itip_report.proofs.RowReports.{none_told, one_told, all_told}
use Rattle.itip_report.proofs.of_rows.progress_of.Goals as goal

pub loop-lines-init : goal.loop-lines-init
loop-lines-init c = λ all are. none_told c.args.rows all (map string_bytes c.new-lines.result.items) are
    (ap (map string_bytes) c.new-lines.ensures.items)

pub loop-lines-preserved : goal.loop-lines-preserved
loop-lines-preserved c = λ all are.
    one_told c.loop-lines.rows all (map string_bytes c.loop-lines.lines.items) (c.loop-lines.invariant all are) c.next.new.self
    c.in-Some.some.items
    (subst (λ (o : Option (List Row)). IsNextOf c.loop-lines.rows c.next.new.self o) (ap (option_map (λ r. r.items)) c.in-Some.is)
    c.in_ok-some.ensures.rows)
    (map string_bytes c.append.new.self.items) (map string_bytes c.in_ok-more.more.items)
    (ap (map string_bytes) c.in_ok-append.ensures.items ∙ map_both string_bytes c.loop-lines.lines.items c.in_ok-more.more.items)
    (c.in_ok-more.ensures.lines ∙ ap progress_lines c.deref.ensures.value)

pub returns : goal.returns
returns c = λ all are.
    all_told c.loop-lines.rows all (map string_bytes c.loop-lines.lines.items) (c.loop-lines.invariant all are) c.next.new.self
    (subst (λ (o : Option (List Row)). IsNextOf c.loop-lines.rows c.next.new.self o) (ap (option_map (λ r. r.items)) c.in_default.is)
    c.in_ok-some.ensures.rows)
