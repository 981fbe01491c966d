use Rattle.std.proofs.Common.{◌≡◌, ◌+◌, ◌++◌, ◌∷◌, [], ◌∙◌, ℕ, List, map, take, append-nil, ap, sym, Option, Some, None}
use Rattle.std.specs.Prelude.{option_to_list}
use Rattle.std.specs.Option.{option_map}
use Rattle.std.specs.String.{string_bytes}
use Rattle.itip_view.specs.declared.row.Row.{Row}
use Rattle.itip_view.proofs.FlatMap.{flat_map_more}
use Rattle.itip_report.specs.Progress.{line_with, progress_line, progress_lines}
use Rattle.itip_report.proofs.Mapped.{map_both}
use Rattle.itip_report.proofs.Nothing.{progress_there}
use Rattle.itip_report.proofs.row_progress.progress.Goals as goal
use Rattle.itip_report.proofs.row_progress.progress.Goals.{in-Some+in_ok-progress_line+in_ok-push, in_default}

pub loop-row-preserved : goal.loop-row-preserved
loop-row-preserved c =
    let row : Row = c.row-item.result in
    let before : List (List ℕ) = progress_lines (take c.loop-row.row-index c.args.rows.now) in
    let more : progress_lines (take (c.loop-row.row-index + 1) c.args.rows.now) ≡ before ++ progress_line row =
    flat_map_more progress_line c.args.rows.now c.loop-row.row-index row c.loop-row-test.true c.row-item.is in
    let told : (o : Option ℕ) → row.progress ≡ o → progress_line row ≡ option_to_list (option_map (line_with row) o) =
    λ o e. ap (λ p. option_to_list (option_map (line_with row) p)) e in
    elim c.match-row.branch [
      | in-Some+in_ok-progress_line+in_ok-push w ↦
          ap (λ v. map string_bytes v.items) w.lines-is ∙ ap (map string_bytes) w.in_ok-push.ensures.items ∙
          map_both string_bytes c.loop-row.lines.items (w.in_ok-progress_line.field-0 ∷ [])
          ∙ (λ i. c.loop-row.invariant i ++ w.in_ok-progress_line.ensures i ∷ []) ∙
          ap (λ lines. before ++ lines) (sym (told (Some w.in-Some.percent) w.in-Some.is)) ∙ sym more
      | in_default w ↦
          ap (λ v. map string_bytes v.items) w.lines-is ∙ c.loop-row.invariant ∙ sym (append-nil before) ∙
          ap (λ lines. before ++ lines) (sym (told None w.in_default.is)) ∙ sym more
    ]

pub returns-in_err-progress_line-clause-succeeds : goal.returns-in_err-progress_line-clause-succeeds
returns-in_err-progress_line-clause-succeeds c = λ none.
    absurd (progress_there c.args.rows.now c.loop-row.row-index c.row-item.result c.in-Some.percent c.loop-row-test.true c.row-item.is
    c.in-Some.is none)

pub returns-in_err-push-clause-succeeds : goal.returns-in_err-push-clause-succeeds
returns-in_err-push-clause-succeeds c = λ none.
    absurd (progress_there c.args.rows.now c.loop-row.row-index c.row-item.result c.in-Some.percent c.loop-row-test.true c.row-item.is
    c.in-Some.is none)
