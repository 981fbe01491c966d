use Rattle.std.proofs.Common.{◌+◌, ◌≤◌, ℕ, List, length, take, ap, subst, arith}
use Rattle.std.proofs.lemmas.Result.{on_ok_weaker, on_err_weaker}
use Rattle.std.specs.Io.KnownBytes.{Appends}
use Rattle.itip_items.specs.declared.item.Item.{Item}
use Rattle.itip_streams.specs.Written.{AppendsFront}
use Rattle.itip_inbox.specs.Compaction.{WritesSoFar}
use Rattle.itip_streams.proofs.Writing.{front_none}
use Rattle.itip_inbox.proofs.Outputs.{on_err, items_none, items_more, items_moved, items_front, items_end}
use Rattle.itip_inbox.proofs.compaction.write_items.Goals as goal
use Rattle.itip_inbox.proofs.compaction.write_items.Goals.{In_ok-append_to}

-- one item more is kept
more : (g : _) (c : In_ok-append_to g)
    → WritesSoFar (g.W.Write.contents c.args.writer.now) (g.W.Write.contents c.loop-item.writer)
    (take (c.loop-item.item-index + 1) c.args.items.now) c.append_to.new.out.items
more g c =
    items_more (g.W.Write.contents c.args.writer.now) (g.W.Write.contents c.loop-item.writer) c.args.items.now c.loop-item.item-index
    c.item-item.result c.loop-item.kept.items c.append_to.new.out.items c.deref.result.now.bytes
    c.loop-item.invariant (omega arith) c.item-item.is (ap (λ (i : Item). i.bytes) c.deref.ensures)
    c.in_ok-append_to.ensures.ok

pub loop-item-init : goal.loop-item-init
loop-item-init g c = items_none (g.W.Write.contents c.args.writer.now) c.new-kept.result.items c.new-kept.ensures.items

pub returns-in_err-append_to-clause-front : goal.returns-in_err-append_to-clause-front
returns-in_err-append_to-clause-front g c =
    on_err c.from_residual.result
    (items_front (g.W.Write.contents c.args.writer.now) (g.W.Write.contents c.loop-item.writer) (g.W.Write.contents c.loop-item.writer)
    c.args.items.now c.loop-item.item-index c.loop-item.kept.items
    c.loop-item.invariant (front_none (g.W.Write.contents c.loop-item.writer) c.loop-item.kept.items))

pub returns-in_err-write_if_many-clause-front : goal.returns-in_err-write_if_many-clause-front
returns-in_err-write_if_many-clause-front g c =
    on_err c.from_residual-in_err-write_if_many.result
    (items_front (g.W.Write.contents c.args.writer.now) (g.W.Write.contents c.loop-item.writer)
    (g.W.Write.contents c.write_if_many.new.writer) c.args.items.now (c.loop-item.item-index + 1) c.append_to.new.out.items
    (more g (goal.at.returns-in_err-write_if_many-clause-front g c).In_ok-append_to) c.in_err-write_if_many.ensures.front)

pub loop-item-preserved : goal.loop-item-preserved
loop-item-preserved g c =
    items_moved (g.W.Write.contents c.args.writer.now) (g.W.Write.contents c.loop-item.writer)
    (g.W.Write.contents c.write_if_many.new.writer) (take (c.loop-item.item-index + 1) c.args.items.now)
    c.append_to.new.out.items c.write_if_many.new.kept.items
    (more g (goal.at.loop-item-preserved g c).In_ok-append_to) c.in_ok-write_if_many.ensures.moved

pub returns-clause-all : goal.returns-clause-all
returns-clause-all g c =
    let past : length c.args.items.now ≤ c.loop-item.item-index = omega arith in
    on_ok_weaker c.write_output.result (λ all.
    items_end (g.W.Write.contents c.args.writer.now) (g.W.Write.contents c.loop-item.writer) (g.W.Write.contents c.write_output.new.writer)
    c.args.items.now c.loop-item.item-index c.loop-item.kept.items
    c.loop-item.invariant past (subst (λ (t : List ℕ). Appends (g.W.Write.contents c.loop-item.writer)
    (g.W.Write.contents c.write_output.new.writer) t) c.as_slice.ensures.value all)) c.write_output.ensures.all

pub returns-clause-front : goal.returns-clause-front
returns-clause-front g c =
    on_err_weaker c.write_output.result (λ front.
    items_front (g.W.Write.contents c.args.writer.now) (g.W.Write.contents c.loop-item.writer)
    (g.W.Write.contents c.write_output.new.writer) c.args.items.now c.loop-item.item-index c.loop-item.kept.items
    c.loop-item.invariant (subst (λ (t : List ℕ). AppendsFront (g.W.Write.contents c.loop-item.writer)
    (g.W.Write.contents c.write_output.new.writer) t) c.as_slice.ensures.value front)) c.write_output.ensures.front
