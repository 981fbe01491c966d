use Rattle.std.proofs.Common.{◌≡◌, ◌+◌, ◌++◌, ◌∷◌, [], ◌∙◌, List, take, drop, sym, ap, subst, arith, append-nil, take-append-drop}
use Rattle.std.proofs.lemmas.List.{take_more, take_all}
use Rattle.std.specs.List.{flat_map}
use Rattle.itip_streams.specs.Written.{AppendsFront, MovesOut}
use Rattle.itip_streams.proofs.Writing.{front_none, moves_on}
use Rattle.itip_view.specs.declared.row.Row.{Row}
use Rattle.itip_desk.proofs.WritingRows.{on_err, texts_none, texts_more, texts_front}
use Rattle.itip_desk.proofs.row_writing.write_some_rows.Goals as goal
use Rattle.itip_desk.proofs.row_writing.write_some_rows.Goals.{In_ok-put}

-- the text of one more row is kept
more : (g : _) (c : In_ok-put g)
    → MovesOut (g.W.Write.contents c.args.writer.now) (g.W.Write.contents c.loop-row.writer)
    (c.args.kept.now.items ++ flat_map (g.F.RowForm.octets c.args.form.now) (take (c.loop-row.row-index + 1) c.args.rows.now))
    c.put.new.out.items
more g c =
    let row : Row = c.row-item.result in
    let grown : take (c.loop-row.row-index + 1) c.args.rows.now ≡ take c.loop-row.row-index c.args.rows.now ++ row ∷ [] =
    take_more c.args.rows.now c.loop-row.row-index row (omega arith) ∙
    ap (λ (r : Row). take c.loop-row.row-index c.args.rows.now ++ r ∷ []) (sym c.row-item.is) in
    subst (λ (rows : List Row). MovesOut (g.W.Write.contents c.args.writer.now) (g.W.Write.contents c.loop-row.writer)
    (c.args.kept.now.items ++ flat_map (g.F.RowForm.octets c.args.form.now) rows) c.put.new.out.items) (sym grown)
    (texts_more _ _ _ c.args.kept.now.items c.loop-row.kept.items (take c.loop-row.row-index c.args.rows.now) c.loop-row.invariant
    (row ∷ [])
    c.put.new.out.items
    (c.in_ok-put.ensures ∙ ap (λ t. c.loop-row.kept.items ++ t) (sym (append-nil (g.F.RowForm.octets c.args.form.now row)))))

-- all rows: those up to this one and those after it
cut : (n : _) (rows : List Row) → take n rows ++ drop n rows ≡ rows
cut n rows = take-append-drop n rows

pub loop-row-init : goal.loop-row-init
loop-row-init g c = texts_none (g.F.RowForm.octets c.args.form.now) (g.W.Write.contents c.args.writer.now) c.args.kept.now.items

pub returns-in_err-put-clause-front : goal.returns-in_err-put-clause-front
returns-in_err-put-clause-front g c =
    on_err c.from_residual.result
    (subst (λ (rows : List Row). AppendsFront (g.W.Write.contents c.args.writer.now) (g.W.Write.contents c.loop-row.writer)
    (c.args.kept.now.items ++ flat_map (g.F.RowForm.octets c.args.form.now) rows)) (cut c.loop-row.row-index c.args.rows.now)
    (texts_front _ _ _ c.args.kept.now.items c.loop-row.kept.items (take c.loop-row.row-index c.args.rows.now) c.loop-row.invariant _
    (drop c.loop-row.row-index c.args.rows.now) (front_none _ c.loop-row.kept.items)))

pub returns-in_err-write_if_many-clause-front : goal.returns-in_err-write_if_many-clause-front
returns-in_err-write_if_many-clause-front g c =
    on_err c.from_residual-in_err-write_if_many.result
    (subst (λ (rows : List Row). AppendsFront (g.W.Write.contents c.args.writer.now) (g.W.Write.contents c.write_if_many.new.writer)
    (c.args.kept.now.items ++ flat_map (g.F.RowForm.octets c.args.form.now) rows)) (cut (c.loop-row.row-index + 1) c.args.rows.now)
    (texts_front _ _ _ c.args.kept.now.items c.put.new.out.items (take (c.loop-row.row-index + 1) c.args.rows.now)
    (more g (goal.at.returns-in_err-write_if_many-clause-front g c).In_ok-put) _
    (drop (c.loop-row.row-index + 1) c.args.rows.now) c.in_err-write_if_many.ensures.front))

pub loop-row-preserved : goal.loop-row-preserved
loop-row-preserved g c =
    moves_on _ _ _ c.put.new.out.items (more g (goal.at.loop-row-preserved g c).In_ok-put) _ c.write_if_many.new.kept.items
    c.in_ok-write_if_many.ensures.moved

pub returns-clause-moved : goal.returns-clause-moved
returns-clause-moved g c =
    let all = take_all c.loop-row.row-index c.args.rows.now (omega (arith, c.loop-row-test.false)) in
    subst (λ (rows : List Row). MovesOut (g.W.Write.contents c.args.writer.now) (g.W.Write.contents c.loop-row.writer)
    (c.args.kept.now.items ++ flat_map (g.F.RowForm.octets c.args.form.now) rows) c.loop-row.kept.items) all c.loop-row.invariant
