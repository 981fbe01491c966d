use Rattle.std.proofs.Common.{◌++◌, List, Option, subst, ap}
use Rattle.std.specs.List.{flat_map}
use Rattle.std.specs.Option.{option_map}
use Rattle.itip_streams.specs.Written.{AppendsFront, MovesOut}
use Rattle.itip_view.specs.ByUid.{IsNextOf}
use Rattle.itip_view.specs.declared.row.Row.{Row}
use Rattle.itip_desk.proofs.WritingRows.{on_err, none_so_far, stays_written, all_so_far, one_more, front_of_more}
use Rattle.itip_desk.proofs.row_writing.write_rows.Goals as goal

pub loop-rows-init : goal.loop-rows-init
loop-rows-init g c = λ all are. none_so_far (g.F.RowForm.octets c.args.form.now) c.args.rows all (g.W.Write.contents c.args.writer.now)
    c.args.kept.now.items are

pub returns-in_err-some-clause-front : goal.returns-in_err-some-clause-front
returns-in_err-some-clause-front g c =
    on_err c.from_residual.result (λ all are. stays_written _ _ all _ _ _ _ (c.loop-rows.invariant all are))

pub loop-rows-preserved : goal.loop-rows-preserved
loop-rows-preserved g c = λ all are.
    one_more (g.F.RowForm.octets c.args.form.now) c.loop-rows.rows all _ _ _ c.loop-rows.kept.items (c.loop-rows.invariant all are)
    c.next.new.self c.in-Some.some.items
    (subst (λ (o : Option (List Row)). IsNextOf c.loop-rows.rows c.next.new.self o) (ap (option_map (λ r. r.items)) c.in-Some.is)
    c.in_ok-some.ensures.rows) _ c.write_some_rows-done.new.kept.items
    (subst (λ (rows : List Row). MovesOut (g.W.Write.contents c.loop-rows.writer) (g.W.Write.contents c.write_some_rows-done.new.writer)
    (c.loop-rows.kept.items ++ flat_map (g.F.RowForm.octets c.args.form.now) rows) c.write_some_rows-done.new.kept.items)
    c.as_slice.ensures.value c.in_ok-done.ensures.moved)

pub returns-in_err-done-clause-front : goal.returns-in_err-done-clause-front
returns-in_err-done-clause-front g c =
    on_err c.from_residual-in_err-done.result (λ all are.
    front_of_more (g.F.RowForm.octets c.args.form.now) c.loop-rows.rows all _ _ _ c.loop-rows.kept.items (c.loop-rows.invariant all are)
    c.next.new.self c.in-Some.some.items
    (subst (λ (o : Option (List Row)). IsNextOf c.loop-rows.rows c.next.new.self o) (ap (option_map (λ r. r.items)) c.in-Some.is)
    c.in_ok-some.ensures.rows) _
    (subst (λ (rows : List Row). AppendsFront (g.W.Write.contents c.loop-rows.writer) (g.W.Write.contents c.write_some_rows-done.new.writer)
    (c.loop-rows.kept.items ++ flat_map (g.F.RowForm.octets c.args.form.now) rows)) c.as_slice.ensures.value c.in_err-done.ensures.front))

pub returns-clause-moved : goal.returns-clause-moved
returns-clause-moved g c = λ all are.
    all_so_far _ _ all _ _ _ _ (c.loop-rows.invariant all are) c.next.new.self
    (subst (λ (o : Option (List Row)). IsNextOf c.loop-rows.rows c.next.new.self o) (ap (option_map (λ r. r.items)) c.in_default.is)
    c.in_ok-some.ensures.rows)
