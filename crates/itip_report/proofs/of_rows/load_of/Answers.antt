use Rattle.std.proofs.Common.{◌≡◌, ◌≤◌, ◌+◌, ◌++◌, List, Option, length, map, ap, subst}
use Rattle.std.specs.Option.{option_map}
use Rattle.std.specs.String.{string_bytes}
use Rattle.itip_state.proofs.Members.{if_ok_then}
use Rattle.itip_view.specs.ByUid.{AreLeft, IsNextOf}
use Rattle.itip_view.specs.Rows.{row_limit}
use Rattle.itip_view.specs.declared.row.Row.{Row}
use Rattle.itip_report.specs.Load.{load_lines}
use Rattle.itip_report.specs.Tally.{AreTallied}
use Rattle.itip_report.proofs.RowReports.{none_counted, one_counted, all_counted}
use Rattle.itip_report.proofs.of_rows.load_of.Goals as goal

pub loop-tally-init : goal.loop-tally-init
loop-tally-init c = λ all are few. none_counted c.args.rows all c.new-tally.result are c.new-tally.ensures

pub loop-tally-preserved : goal.loop-tally-preserved
loop-tally-preserved c = λ all are few.
    one_counted c.loop-tally.rows all c.loop-tally.tally (c.loop-tally.invariant all are few) few c.next.new.self c.in-Some.some.items
    (subst (λ (o : Option (List Row)). IsNextOf c.loop-tally.rows c.next.new.self o) (ap (option_map (λ r. r.items)) c.in-Some.is)
    c.in_ok-some.ensures.rows) c.count_rows.new.tally
    (subst (λ (rows : List Row). (done : List Row) → length done + length rows ≤ 18446744073709551615 → AreTallied done c.loop-tally.tally →
    AreTallied (done ++ rows) c.count_rows.new.tally) c.as_slice.ensures.value c.in_ok-count_rows.ensures.counted)

pub returns : goal.returns
returns c =
    if_ok_then (λ lines. (done : List Row) → AreTallied done c.loop-tally.tally → map string_bytes lines.items ≡ load_lines done)
    (λ lines. (all : List Row) → AreLeft c.args.rows all → length all ≤ row_limit → map string_bytes lines.items ≡ load_lines all)
    c.tallied_lines.result
    (λ lines told all are few. all_counted c.loop-tally.rows all c.loop-tally.tally (c.loop-tally.invariant all are few) c.next.new.self
    (subst (λ (o : Option (List Row)). IsNextOf c.loop-tally.rows c.next.new.self o) (ap (option_map (λ r. r.items)) c.in_default.is)
    c.in_ok-some.ensures.rows) (map string_bytes lines.items) told) c.tallied_lines.ensures.lines
