use Rattle.std.proofs.Common.{refl, subst}
use Rattle.itip_streams.proofs.Writing.{moves_more, moves_none}
use Rattle.itip_view.specs.ByUid.{IsCountOf}
use Rattle.itip_desk.proofs.WritingRows.{on_err, nothing_listed, rows_listed, rows_front}
use Rattle.itip_desk.proofs.row_writing.write_listed.Goals as goal

pub returns-in_err-number-clause-front : goal.returns-in_err-number-clause-front
returns-in_err-number-clause-front g c =
    on_err c.from_residual.result
    (nothing_listed c.args.word.now c.args.desk c.args.rows (g.W.Write.contents c.args.writer.now) c.args.kept.now.items)

pub returns-in_err-write_head-in-Few-clause-front : goal.returns-in_err-write_head-in-Few-clause-front
returns-in_err-write_head-in-Few-clause-front g c =
    on_err c.from_residual-in_err-write_head-in-Few.result
    (nothing_listed c.args.word.now c.args.desk c.args.rows (g.W.Write.contents c.args.writer.now) c.args.kept.now.items)

pub returns-in_err-write_rows-in-Few-clause-front : goal.returns-in_err-write_rows-in-Few-clause-front
returns-in_err-write_rows-in-Few-clause-front g c =
    on_err c.from_residual-in_err-write_rows-in-Few.result
    (rows_front c.args.word.now c.args.desk c.in-Few.number c.args.rows
    (subst (IsCountOf c.args.rows) c.in-Few.is c.in_ok-number.ensures.count) c.args.kept.now.items
    c.write_head.new.output.items c.in_ok-write_head-in-Few.ensures (g.W.Write.contents c.args.writer.now)
    (g.W.Write.contents c.write_rows.new.writer) c.in_err-write_rows-in-Few.ensures.front)

pub returns-in_ok-write_rows-in-Few-clause-listed : goal.returns-in_ok-write_rows-in-Few-clause-listed
returns-in_ok-write_rows-in-Few-clause-listed g c =
    rows_listed c.args.word.now c.args.desk c.in-Few.number c.args.rows
    (subst (IsCountOf c.args.rows) c.in-Few.is c.in_ok-number.ensures.count) c.args.kept.now.items
    c.write_head.new.output.items c.in_ok-write_head-in-Few.ensures (g.W.Write.contents c.args.writer.now)
    (g.W.Write.contents c.write_rows.new.writer) c.write_rows.new.kept.items c.in_ok-write_rows-in-Few.ensures.moved

pub returns-in_err-append-in-TooMany-clause-front : goal.returns-in_err-append-in-TooMany-clause-front
returns-in_err-append-in-TooMany-clause-front g c =
    on_err c.from_residual-in_err-append-in-TooMany.result
    (nothing_listed c.args.word.now c.args.desk c.args.rows (g.W.Write.contents c.args.writer.now) c.args.kept.now.items)

pub returns-in_ok-append-in-TooMany-clause-listed : goal.returns-in_ok-append-in-TooMany-clause-listed
returns-in_ok-append-in-TooMany-clause-listed g c =
    let o = g.W.Write.contents c.args.writer.now in
    let kept = c.args.kept.now.items in
    record {
      text = _;
      is_listed = (subst (IsCountOf c.args.rows) c.in-TooMany.is c.in_ok-number.ensures.count, refl);
      moved = moves_more o o kept kept (moves_none o kept) _ c.append.new.output.items c.in_ok-append-in-TooMany.ensures;
    }
