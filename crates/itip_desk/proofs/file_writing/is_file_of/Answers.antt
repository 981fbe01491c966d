use Rattle.std.proofs.Common.{◌≡◌, ◌∙◌, ◌≤◌, ◌<◌, ◌^◌, ℕ, length, Option, List, true, false, sym, ap, subst, arith}
use Rattle.std.specs.Prelude.{◌==◌}
use Rattle.std.proofs.lemmas.Bool.{eqb-true}
use Rattle.itip_items.specs.declared.item.Item.{Item}
use Rattle.itip_state.specs.Kept.{IsItemsOf}
use Rattle.itip_desk.specs.DeskFile.{head_of}
use Rattle.itip_desk.specs.declared.file_text.FileHead.{FileHead}
use Rattle.itip_desk.proofs.FileWriting.{Completes, none_compared, one_compared, none_same, all_compared, file_where, items_seen, head_seen}
use Rattle.itip_desk.proofs.FileNumbers.{no_octets_if}
use Rattle.itip_desk.proofs.file_writing.is_file_of.Goals as goal

pub loop-item-init : goal.loop-item-init
loop-item-init c =
    let items : List Item = c.deref-item-items.result.now in
    subst (λ (head : Option FileHead). Completes c.args.desk.now.changed (head_of c.args.desk.now.tick items) head items 0
    c.args.octets.now c.args.octets.now)
    (head_seen c.args.desk.now.tick items c.in_ok-items.items.items c.as_slice.result.now c.deref-item-items.ensures.value
    c.as_slice.ensures.value c.head_of.ensures)
    (none_compared c.args.desk.now.changed (head_of c.args.desk.now.tick items) items c.args.octets.now)

pub returns-in_default : goal.returns-in_default
returns-in_default c =
    let items : List Item = c.deref-item-items.result.now in
    let few : length items < 2 ^ 64 = omega arith in
    let are : IsItemsOf items c.args.desk.now.kept =
    items_seen items c.in_ok-items.items.items c.state.result.now c.args.desk.now.kept c.deref-item-items.ensures.value c.state.ensures
    c.in_ok-items.ensures.items in (
      λ yes. absurd (differ yes),
      λ file. absurd (none_same _ _ _ _ _ _ _ c.loop-item.invariant c.item-item.result c.loop-item-test.true c.item-item.is
          (rw c.in_default.is at c.in_ok-after.ensures.none)
          ((file_where c.args.desk.now items c.args.octets.now are few).1 file)),
    )
  where
    differ : false ≡ true → ⊥
    differ e = cc

pub loop-item-preserved : goal.loop-item-preserved
loop-item-preserved c =
    one_compared _ _ _ _ _ _ _ c.loop-item.invariant c.item-item.result c.loop-item-test.true c.item-item.is c.in-Some.after.now
    (rw c.in-Some.is at c.in_ok-after.ensures.found)

pub returns : goal.returns
returns c =
    let items : List Item = c.deref-item-items.result.now in
    let few : length items < 2 ^ 64 = omega arith in
    let are : IsItemsOf items c.args.desk.now.kept =
    items_seen items c.in_ok-items.items.items c.state.result.now c.args.desk.now.kept c.deref-item-items.ensures.value c.state.ensures
    c.in_ok-items.ensures.items in
    let past : length items ≤ c.loop-item.item-index = c.loop-item-test.false in
    let all = all_compared _ _ _ _ _ _ _ c.loop-item.invariant past in
    let where_file = file_where c.args.desk.now items c.args.octets.now are few in (
      λ yes. where_file.0 (all.1 (no_octets_if c.loop-item.rest.now (eqb-true _ _ (sym c.is_empty.ensures ∙ yes)))),
      λ file. c.is_empty.ensures ∙ ap (λ (t : List ℕ). length t == 0) (all.0 (where_file.1 file)),
    )
