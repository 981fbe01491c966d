use Rattle.std.proofs.Common.{◌≡◌, ◌++◌, ◌∙◌, List, ℕ, ap, subst}
use Rattle.std.specs.List.{flat_map}
use Rattle.std.specs.Io.KnownBytes.{Appends}
use Rattle.std.proofs.lemmas.Result.{on_ok_weaker, on_err_weaker}
use Rattle.itip_streams.specs.Written.{AppendsFront, MovesOut}
use Rattle.itip_streams.proofs.Writing.{all_moved, front_moved, front_none}
use Rattle.itip_view.specs.ByUid.{AreLeft}
use Rattle.itip_view.specs.declared.row.Row.{Row}
use Rattle.itip_inbox.specs.Csv.{record_text, field_names, row_records_text, csv_text}
use Rattle.itip_inbox.proofs.Outputs.{on_err}
use Rattle.itip_inbox.proofs.csv_records.CsvListListForm.write.Given.{Over}
use Rattle.itip_inbox.proofs.csv_records.CsvListListForm.write.Goals as goal
use Rattle.itip_inbox.proofs.csv_records.CsvListListForm.write.Goals.{In_ok-put_heads, In_ok-write_rows}

-- what is kept is the record of the names
heads : (g : Over) (c : In_ok-put_heads g) → c.put_heads.new.out.items ≡ record_text field_names
heads g c = c.in_ok-put_heads.ensures ∙ ap (λ (t : List ℕ). t ++ record_text field_names) c.new-kept.ensures.items

-- what was written of the rows, and what is kept to be written
moved : (g : Over) (c : In_ok-write_rows g) (all : List Row) (are : AreLeft c.args.rows all) →
    MovesOut (g.W.Write.contents c.args.writer.now) (g.W.Write.contents c.write_rows.new.writer) (csv_text all)
    c.write_rows.new.kept.items
moved g c all are =
    subst (λ (t : List ℕ). MovesOut (g.W.Write.contents c.args.writer.now) (g.W.Write.contents c.write_rows.new.writer)
    (t ++ flat_map row_records_text all) c.write_rows.new.kept.items)
    (c.in_ok-put_heads.ensures ∙ ap (λ (t : List ℕ). t ++ record_text field_names) c.new-kept.ensures.items)
    (c.in_ok-write_rows.ensures.moved all are)

pub returns-in_err-put_heads-clause-front : goal.returns-in_err-put_heads-clause-front
returns-in_err-put_heads-clause-front g c =
    on_err c.from_residual.result (λ few. front_none (g.W.Write.contents c.args.writer.now) (csv_text few.rows))

pub returns-in_err-write_rows-clause-front : goal.returns-in_err-write_rows-clause-front
returns-in_err-write_rows-clause-front g c =
    on_err c.from_residual-in_err-write_rows.result (λ few.
    subst (λ (t : List ℕ). AppendsFront (g.W.Write.contents c.args.writer.now) (g.W.Write.contents c.write_rows.new.writer)
    (t ++ flat_map row_records_text few.rows)) (heads g (goal.at.returns-in_err-write_rows-clause-front g c).In_ok-put_heads)
    (c.in_err-write_rows.ensures.front few.rows few.are_left))

pub returns-clause-all : goal.returns-clause-all
returns-clause-all g c =
    on_ok_weaker c.write_output.result (λ appended few.
    all_moved _ _ (csv_text few.rows) c.write_rows.new.kept.items
    (moved g (goal.at.returns-clause-all g c).In_ok-write_rows few.rows few.are_left) _
    (subst (λ (t : List ℕ). Appends (g.W.Write.contents c.write_rows.new.writer) (g.W.Write.contents c.write_output.new.writer) t)
    c.as_slice.ensures.value appended)) c.write_output.ensures.all

pub returns-clause-front : goal.returns-clause-front
returns-clause-front g c =
    on_err_weaker c.write_output.result (λ front few.
    front_moved _ _ (csv_text few.rows) c.write_rows.new.kept.items
    (moved g (goal.at.returns-clause-front g c).In_ok-write_rows few.rows few.are_left) _
    (subst (λ (t : List ℕ). AppendsFront (g.W.Write.contents c.write_rows.new.writer) (g.W.Write.contents c.write_output.new.writer) t)
    c.as_slice.ensures.value front)) c.write_output.ensures.front
