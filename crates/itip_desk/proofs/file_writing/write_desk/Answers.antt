use Rattle.std.proofs.Common.{◌+◌, ◌≤◌, length, List, ℕ, Option, None, sym, subst, arith}
use Rattle.std.specs.Io.KnownBytes.{Appends}
use Rattle.itip_items.specs.declared.item.Item.{Item}
use Rattle.itip_state.specs.Kept.{IsItemsOf}
use Rattle.itip_state.proofs.Members.{on_ok_then}
use Rattle.itip_streams.specs.Written.{AppendsFront}
use Rattle.itip_streams.proofs.Writing.{front_none}
use Rattle.itip_desk.specs.DeskFile.{head_of}
use Rattle.itip_desk.specs.declared.file_text.FileHead.{FileHead}
use Rattle.itip_desk.proofs.FileWriting.{WritesSoFar, none_written, one_kept, one_written, front_so_far, still_front, written_all, one_file}
use Rattle.itip_desk.proofs.FileWriting.{on_err_then, writes_file, items_seen, head_seen}
use Rattle.itip_desk.proofs.Refusals.{on_err_always}
use Rattle.itip_desk.proofs.file_writing.write_desk.Goals as goal
use Rattle.itip_desk.proofs.file_writing.write_desk.Goals.{In_ok-append_item, After-deref-item-items}

-- what is looped over is what the desk keeps
are : (g : _) (c : After-deref-item-items g) → IsItemsOf c.deref-item-items.result.now c.args.desk.now.kept
are g c =
    items_seen c.deref-item-items.result.now c.in_ok-items.items.items c.state.result.now c.args.desk.now.kept
    c.deref-item-items.ensures.value c.state.ensures c.in_ok-items.ensures.items

-- with one more message
more : (g : _) (c : In_ok-append_item g) →
    WritesSoFar c.args.desk.now.changed (head_of c.args.desk.now.tick c.deref-item-items.result.now) None c.deref-item-items.result.now
    (c.loop-item.item-index + 1) (g.W.Write.contents c.args.writer.now) (g.W.Write.contents c.loop-item.writer) c.append_item.new.file.items
more g c =
    one_kept c.args.desk.now.changed (head_of c.args.desk.now.tick c.deref-item-items.result.now) c.loop-item.head
    c.deref-item-items.result.now c.loop-item.item-index _ _ c.loop-item.kept.items c.loop-item.invariant c.item-item.result
    c.loop-item-test.true c.item-item.is c.append_item.new.file.items c.in_ok-append_item.ensures

pub loop-item-init : goal.loop-item-init
loop-item-init g c =
    let items : List Item = c.deref-item-items.result.now in
    subst (λ (head : Option FileHead). WritesSoFar c.args.desk.now.changed (head_of c.args.desk.now.tick items) head items 0
    (g.W.Write.contents c.args.writer.now) (g.W.Write.contents c.args.writer.now) c.new-kept.result.items)
    (head_seen c.args.desk.now.tick items c.in_ok-items.items.items c.as_slice.result.now c.deref-item-items.ensures.value
    c.as_slice.ensures.value c.head_of.ensures)
    (none_written c.args.desk.now.changed (head_of c.args.desk.now.tick items) items (g.W.Write.contents c.args.writer.now)
    c.new-kept.result.items c.new-kept.ensures.items)

pub returns-in_err-items-clause-front : goal.returns-in_err-items-clause-front
returns-in_err-items-clause-front g c =
    on_err_always c.from_residual.result (λ octets file. front_none (g.W.Write.contents c.args.writer.now) octets)

pub returns-in_err-append_item-clause-front : goal.returns-in_err-append_item-clause-front
returns-in_err-append_item-clause-front g c =
    on_err_always c.from_residual-in_err-append_item.result (λ octets file.
    subst (λ (t : List ℕ). AppendsFront (g.W.Write.contents c.args.writer.now) (g.W.Write.contents c.loop-item.writer) t)
    (sym (one_file c.args.desk.now c.deref-item-items.result.now octets
    (are g (goal.at.returns-in_err-append_item-clause-front g c).After-deref-item-items) file))
    (still_front _ _ _ _ _ _ _ _ c.loop-item.invariant))

pub returns-in_err-write_if_many-clause-front : goal.returns-in_err-write_if_many-clause-front
returns-in_err-write_if_many-clause-front g c =
    on_err_always c.from_residual-in_err-write_if_many.result (λ octets file.
    subst (λ (t : List ℕ). AppendsFront (g.W.Write.contents c.args.writer.now) (g.W.Write.contents c.write_if_many.new.writer) t)
    (sym (one_file c.args.desk.now c.deref-item-items.result.now octets
    (are g (goal.at.returns-in_err-write_if_many-clause-front g c).After-deref-item-items) file))
    (front_so_far _ _ _ _ _ _ _ _ (more g (goal.at.returns-in_err-write_if_many-clause-front g c).In_ok-append_item) _
    c.in_err-write_if_many.ensures.front))

pub loop-item-preserved : goal.loop-item-preserved
loop-item-preserved g c =
    one_written _ _ _ _ _ _ _ _ _ c.write_if_many.new.kept.items (more g (goal.at.loop-item-preserved g c).In_ok-append_item)
    c.in_ok-write_if_many.ensures.moved

pub returns-clause-all : goal.returns-clause-all
returns-clause-all g c =
    let past : length c.deref-item-items.result.now ≤ c.loop-item.item-index = c.loop-item-test.false in
    on_ok_then c.write_output.result (λ appended.
    writes_file c.args.desk.now c.deref-item-items.result.now (are g (goal.at.returns-clause-all g c).After-deref-item-items)
    (omega arith) _ _
    (written_all _ _ _ _ _ _ _ _ c.loop-item.invariant past _
    (subst (λ (t : List ℕ). Appends (g.W.Write.contents c.loop-item.writer) (g.W.Write.contents c.write_output.new.writer) t)
    c.as_slice-2.ensures.value appended))) c.write_output.ensures.all

pub returns-clause-front : goal.returns-clause-front
returns-clause-front g c =
    on_err_then c.write_output.result (λ front octets file.
    subst (λ (t : List ℕ). AppendsFront (g.W.Write.contents c.args.writer.now) (g.W.Write.contents c.write_output.new.writer) t)
    (sym (one_file c.args.desk.now c.deref-item-items.result.now octets
    (are g (goal.at.returns-clause-front g c).After-deref-item-items) file))
    (front_so_far _ _ _ _ _ _ _ _ c.loop-item.invariant _
    (subst (λ (t : List ℕ). AppendsFront (g.W.Write.contents c.loop-item.writer) (g.W.Write.contents c.write_output.new.writer) t)
    c.as_slice-2.ensures.value front))) c.write_output.ensures.front
