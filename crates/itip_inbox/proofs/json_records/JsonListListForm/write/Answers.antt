use Rattle.std.proofs.Common.{◌≡◌, ◌==◌, true, ◌++◌, ◌∙◌, List, [], ℕ, sym, ap, arith, subst, vec_len}
use Rattle.std.specs.Io.KnownBytes.{Appends}
use Rattle.std.proofs.lemmas.Result.{on_ok_weaker, on_err_weaker}
use Rattle.itip_streams.specs.Written.{AppendsFront, MovesOut}
use Rattle.itip_streams.proofs.Writing.{front_none}
use Rattle.itip_view.specs.ByUid.{AreLeft}
use Rattle.itip_view.specs.declared.row.Row.{Row}
use Rattle.itip_inbox.specs.Json.{json_text}
use Rattle.itip_inbox.specs.JsonTokens.{opened_text}
use Rattle.itip_inbox.proofs.JsonText.{empty_by, some_by, opened_front, rows_front, rows_stay, array_written_out, array_cut}
use Rattle.itip_inbox.proofs.Outputs.{on_err}
use Rattle.itip_inbox.proofs.json_records.JsonListListForm.write.Given.{Over}
use Rattle.itip_inbox.proofs.json_records.JsonListListForm.write.Goals as goal
use Rattle.itip_inbox.proofs.json_records.JsonListListForm.write.Goals.{In_ok-first, In_ok-done}

-- there is no row if there are no first rows
no_row : (g : Over) (c : In_ok-first g) → (vec_len c.in_ok-first.first == 0) ≡ true → (all : List Row) → AreLeft c.args.rows all → all ≡ []
no_row g c none all are =
    (c.in_ok-first.ensures all are).3 (empty_by c.in_ok-first.first.items (vec_len c.in_ok-first.first)
    (omega (arith, c.in_ok-first.first.ok.0)) none)

-- the array is opened with the first rows
opened : (g : Over) (c : In_ok-done g) →
    MovesOut (g.W.Write.contents c.args.writer.now) (g.W.Write.contents c.open_array-done.new.writer)
    (opened_text c.in_ok-first.first.items)
    c.open_array-done.new.kept.items
opened g c =
    subst (λ (t : List ℕ). MovesOut (g.W.Write.contents c.args.writer.now) (g.W.Write.contents c.open_array-done.new.writer) t
    c.open_array-done.new.kept.items)
    (ap (λ (t : List ℕ). t ++ opened_text c.as_slice.result.now) c.new-kept.ensures.items ∙ ap opened_text c.as_slice.ensures.value)
    c.in_ok-done.ensures.moved

pub returns-in_err-first-clause-front : goal.returns-in_err-first-clause-front
returns-in_err-first-clause-front g c =
    on_err c.from_residual.result (λ few. front_none (g.W.Write.contents c.args.writer.now) (json_text few.rows))

pub returns-then-is_empty-clause-all : goal.returns-then-is_empty-clause-all
returns-then-is_empty-clause-all g c =
    on_ok_weaker c.write_output.result (λ appended few.
    subst (λ (rows : List Row). Appends (g.W.Write.contents c.args.writer.now) (g.W.Write.contents c.write_output.new.writer)
    (json_text rows))
    (sym (no_row g (goal.at.returns-then-is_empty-clause-all g c).In_ok-first (sym c.is_empty.ensures ∙ c.if-is_empty.true) few.rows
    few.are_left)) appended) c.write_output.ensures.all

pub returns-then-is_empty-clause-front : goal.returns-then-is_empty-clause-front
returns-then-is_empty-clause-front g c =
    on_err_weaker c.write_output.result (λ front few.
    subst (λ (rows : List Row). AppendsFront (g.W.Write.contents c.args.writer.now) (g.W.Write.contents c.write_output.new.writer)
    (json_text rows))
    (sym (no_row g (goal.at.returns-then-is_empty-clause-front g c).In_ok-first (sym c.is_empty.ensures ∙ c.if-is_empty.true) few.rows
    few.are_left)) front) c.write_output.ensures.front

pub returns-in_err-done-clause-front : goal.returns-in_err-done-clause-front
returns-in_err-done-clause-front g c =
    on_err c.from_residual-in_err-done.result (λ few.
    let cut = c.in_ok-first.ensures few.rows few.are_left in
    opened_front _ _ c.in_ok-first.first.items cut.0 few.rows c.open_array-done.new.kept.items
    (some_by c.in_ok-first.first.items (vec_len c.in_ok-first.first) (omega (arith, c.in_ok-first.first.ok.0))
    (sym c.is_empty.ensures ∙ c.if-is_empty.false)) cut.2
    (subst (λ (t : List ℕ). AppendsFront (g.W.Write.contents c.args.writer.now) (g.W.Write.contents c.open_array-done.new.writer) t)
    (ap (λ (t : List ℕ). t ++ opened_text c.as_slice.result.now) c.new-kept.ensures.items ∙ ap opened_text c.as_slice.ensures.value)
    c.in_err-done.ensures.front))

pub returns-in_err-write_rows-clause-front : goal.returns-in_err-write_rows-clause-front
returns-in_err-write_rows-clause-front g c =
    on_err c.from_residual-in_err-write_rows.result (λ few.
    let cut = c.in_ok-first.ensures few.rows few.are_left in
    rows_front _ _ c.in_ok-first.first.items cut.0 few.rows c.open_array-done.new.kept.items
    (some_by c.in_ok-first.first.items (vec_len c.in_ok-first.first) (omega (arith, c.in_ok-first.first.ok.0))
    (sym c.is_empty.ensures ∙ c.if-is_empty.false)) cut.2
    (opened g (goal.at.returns-in_err-write_rows-clause-front g c).In_ok-done) _ (c.in_err-write_rows.ensures.front cut.0 cut.1))

pub returns-in_err-extend_from_slice-clause-front : goal.returns-in_err-extend_from_slice-clause-front
returns-in_err-extend_from_slice-clause-front g c =
    on_err c.from_residual-in_err-extend_from_slice.result (λ few.
    let cut = c.in_ok-first.ensures few.rows few.are_left in
    rows_stay _ _ c.in_ok-first.first.items cut.0 few.rows c.open_array-done.new.kept.items
    (some_by c.in_ok-first.first.items (vec_len c.in_ok-first.first) (omega (arith, c.in_ok-first.first.ok.0))
    (sym c.is_empty.ensures ∙ c.if-is_empty.false)) cut.2
    (opened g (goal.at.returns-in_err-extend_from_slice-clause-front g c).In_ok-done) _ c.write_rows.new.kept.items
    (c.in_ok-write_rows.ensures.moved cut.0 cut.1))

pub returns-clause-all : goal.returns-clause-all
returns-clause-all g c =
    on_ok_weaker c.write_output-2.result (λ appended few.
    let cut = c.in_ok-first.ensures few.rows few.are_left in
    array_written_out _ _ c.in_ok-first.first.items cut.0 few.rows c.open_array-done.new.kept.items
    (some_by c.in_ok-first.first.items (vec_len c.in_ok-first.first) (omega (arith, c.in_ok-first.first.ok.0))
    (sym c.is_empty.ensures ∙ c.if-is_empty.false)) cut.2
    (opened g (goal.at.returns-clause-all g c).In_ok-done) _ c.write_rows.new.kept.items (c.in_ok-write_rows.ensures.moved cut.0 cut.1)
    c.extend_from_slice.new.self.items c.in_ok-extend_from_slice.ensures.items _
    (subst (λ (t : List ℕ). Appends (g.W.Write.contents c.write_rows.new.writer) (g.W.Write.contents c.write_output-2.new.writer) t)
    c.as_slice-2.ensures.value appended)) c.write_output-2.ensures.all

pub returns-clause-front : goal.returns-clause-front
returns-clause-front g c =
    on_err_weaker c.write_output-2.result (λ front few.
    let cut = c.in_ok-first.ensures few.rows few.are_left in
    array_cut _ _ c.in_ok-first.first.items cut.0 few.rows c.open_array-done.new.kept.items
    (some_by c.in_ok-first.first.items (vec_len c.in_ok-first.first) (omega (arith, c.in_ok-first.first.ok.0))
    (sym c.is_empty.ensures ∙ c.if-is_empty.false)) cut.2
    (opened g (goal.at.returns-clause-front g c).In_ok-done) _ c.write_rows.new.kept.items (c.in_ok-write_rows.ensures.moved cut.0 cut.1)
    c.extend_from_slice.new.self.items c.in_ok-extend_from_slice.ensures.items _
    (subst (λ (t : List ℕ). AppendsFront (g.W.Write.contents c.write_rows.new.writer) (g.W.Write.contents c.write_output-2.new.writer) t)
    c.as_slice-2.ensures.value front)) c.write_output-2.ensures.front
