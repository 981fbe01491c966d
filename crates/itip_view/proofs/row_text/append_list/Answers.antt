use Rattle.std.proofs.Common.{◌≡◌, ℕ, List, ◌++◌, ap, sym, ◌∙◌, take, append_assoc}
use Rattle.itip_state.proofs.Nothing.{none_left}
use Rattle.itip_view.specs.ListText.{row_text, list_text}
use Rattle.itip_view.proofs.FlatMap.{flat_map_more}
use Rattle.itip_view.proofs.row_text.append_list.Goals as goal

pub loop-row-preserved : goal.loop-row-preserved
loop-row-preserved c =
    let row : List ℕ = row_text c.row-item.result in
    let more = flat_map_more row_text c.args.rows.now c.loop-row.row-index c.row-item.result c.loop-row-test.true c.row-item.is in
    let made : c.write_row.new.out.items ≡ row = c.in_ok-write_row.ensures ∙ ap (λ (front : List ℕ). front ++ row) c.clear.ensures.items in
    c.in_ok-extend_from_slice.ensures.items ∙ ap (λ (text : List ℕ). c.loop-row.out.items ++ text) (c.deref.ensures.value ∙ made)
    ∙ ap (λ (front : List ℕ). front ++ row) c.loop-row.invariant
    ∙ append_assoc c.args.out.now.items (list_text (take c.loop-row.row-index c.args.rows.now)) row ∙
    ap (λ (rest : List ℕ). c.args.out.now.items ++ rest) (sym more)

pub returns-in_err-write_row-clause-succeeds : goal.returns-in_err-write_row-clause-succeeds
returns-in_err-write_row-clause-succeeds c = λ none. absurd (none_left c.args.rows.now c.loop-row.row-index c.loop-row-test.true none)

pub returns-in_err-extend_from_slice-clause-succeeds : goal.returns-in_err-extend_from_slice-clause-succeeds
returns-in_err-extend_from_slice-clause-succeeds c = λ none. absurd
    (none_left c.args.rows.now c.loop-row.row-index c.loop-row-test.true none)
