use Rattle.std.proofs.Common.{◌≡◌, ◌<◌, ◌+◌, ◌∙◌, ◌++◌, ◌∷◌, [], ℕ, List, length, take, take_all, ap, sym, subst, arith}
use Rattle.std.proofs.Common.{append-nil, append_assoc}
use Rattle.std.proofs.lemmas.List.{length-append, length-take, take_more}
use Rattle.itip_view.specs.declared.row.Row.{Row}
use Rattle.itip_state.proofs.Nothing.{not_ok}
use Rattle.itip_report.specs.Load.{keys_in}
use Rattle.itip_report.specs.Tally.{AreTallied}
use Rattle.itip_report.proofs.Nothing.{none_given}
use Rattle.itip_report.proofs.load.count_rows.Goals as goal

pub loop-row-init : goal.loop-row-init
loop-row-init c = λ done few are. subst (λ (rows : List Row). AreTallied rows c.args.tally.now) (sym (append-nil done)) are

pub loop-row-preserved : goal.loop-row-preserved
loop-row-preserved c = λ done few are.
    let rows : List Row = c.args.rows.now in
    let i : ℕ = c.loop-row.row-index in
    let row : Row = c.row-item.result in
    let below : i < length rows = c.loop-row-test.true in
    let before = length-append done (take i rows) in
    let taken = length-take i rows in
    let small : length (done ++ take i rows) < 18446744073709551615 = omega (arith, below, before, taken, few) in
    let grown : take (i + 1) rows ≡ take i rows ++ row ∷ [] = take_more rows i row below ∙
    ap (λ (r : Row). take i rows ++ r ∷ []) (sym c.row-item.is) in
    subst (λ (all : List Row). AreTallied all c.count_row.new.tally)
    (append_assoc done (take i rows) (row ∷ []) ∙ ap (λ (more : List Row). done ++ more) (sym grown))
    (c.in_ok-count_row.ensures.counted (done ++ take i rows) small (c.loop-row.invariant done few are))

pub returns-clause-counted : goal.returns-clause-counted
returns-clause-counted c = λ done few are.
    subst (λ (rows : List Row). AreTallied (done ++ rows) c.loop-row.tally)
    (take_all c.loop-row.row-index c.args.rows.now c.loop-row-test.false) (c.loop-row.invariant done few are)

pub returns-in_err-count_row-clause-succeeds : goal.returns-in_err-count_row-clause-succeeds
returns-in_err-count_row-clause-succeeds c = λ none.
    not_ok (c.in_err-count_row.ensures.succeeds
    (none_given keys_in c.args.rows.now c.loop-row.row-index c.row-item.result c.loop-row-test.true c.row-item.is none))
