use Rattle.std.proofs.Common.{◌≡◌, ◌∙◌, ◌∷◌, ◌++◌, [], List, length, sym, ap, subst, arith, append-nil}
use Rattle.std.proofs.lemmas.List.{nil_from_length}
use Rattle.std.specs.Prelude.{IsPermutation}
use Rattle.std.proofs.lemmas.List.Sorted.{Contains-permutation, IsPermutation-sym}
use Rattle.itip_state.specs.Kept.{IsItemsOf}
use Rattle.itip_state.proofs.Members.{if_ok_then}
use Rattle.std.specs.Vec.Iter.{into_iter_items}
use Rattle.itip_items.specs.declared.item.Item.{Item}
use Rattle.itip_state.proofs.Nothing.{none_after, none_first, not_ok}
use Rattle.itip_desk.proofs.batch.Batch.of_items.Goals as goal

-- an item can't come if there are none
none_comes : (done left rest items : List Item) (item : Item) → done ++ left ≡ items → left ≡ item ∷ rest → items ≡ [] → ⊥
none_comes done left rest items item whole cut none = none_first item rest (sym cut ∙ none_after done left (whole ∙ none))

pub returns-in_err-shared-clause-succeeds : goal.returns-in_err-shared-clause-succeeds
returns-in_err-shared-clause-succeeds c = λ none.
    let empty : length c.args.items.items ≡ 0 = ap length none in
    not_ok (c.in_err-shared.ensures.succeeds (omega (arith, empty, c.len.ensures, c.args.items.ok)))

pub returns-in_err-new-clause-succeeds : goal.returns-in_err-new-clause-succeeds
returns-in_err-new-clause-succeeds c = λ none.
    absurd (none_comes c.loop-item.shared.items (into_iter_items c.loop-item.item-iterator) (into_iter_items c.next.new.self)
    c.args.items.items c.in-Some.item c.loop-item.invariant c.in-Some.ensures.steps.0 none)

pub returns-in_err-push-clause-succeeds : goal.returns-in_err-push-clause-succeeds
returns-in_err-push-clause-succeeds c = λ none.
    absurd (none_comes c.loop-item.shared.items (into_iter_items c.loop-item.item-iterator) (into_iter_items c.next.new.self)
    c.args.items.items c.in-Some.item c.loop-item.invariant c.in-Some.ensures.steps.0 none)

-- items in another order make the same batch
moved_items : (batch before after : List Item) → IsPermutation before after → IsItemsOf batch after → IsItemsOf batch before
moved_items batch before after moved is = record {
  ascend = is.ascend;
  same = λ item. (
    λ h. Contains-permutation after before item (IsPermutation-sym before after moved) ((is.same item).0 h),
    λ h. (is.same item).1 (Contains-permutation before after item moved h),
  );
}

pub returns-clause-items : goal.returns-clause-items
returns-clause-items c =
    let none : into_iter_items c.loop-item.item-iterator ≡ [] =
    nil_from_length (into_iter_items c.loop-item.item-iterator)
    (omega (arith, c.in-None.ensures.steps.0, c.loop-item.item-iterator.rest.ok.0)) in
    let whole : c.loop-item.shared.items ≡ c.args.items.items =
    sym (append-nil c.loop-item.shared.items) ∙ (ap (λ (l : List Item). c.loop-item.shared.items ++ l) (sym none) ∙
    c.loop-item.invariant) in
    let sorted = c.sort_unstable_by.new.self.items in
    if_ok_then (λ batch. IsItemsOf batch sorted) (λ batch. IsItemsOf batch c.args.items.items) c.of_shared.result
    (λ batch is. moved_items batch c.args.items.items sorted
    (subst (λ (l : List Item). IsPermutation l sorted) whole c.sort_unstable_by.ensures.permutation) is)
    c.of_shared.ensures.items
