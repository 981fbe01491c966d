use Rattle.std.proofs.Common.{◌≡◌, ◌∙◌, ◌+◌, ◌<◌, sym, ap, ℕ, List, [], ◌∷◌}
use Rattle.std.proofs.Common.{◌++◌, append-nil, append_assoc, length, take, get_or, Bool, true, false}
use Rattle.std.specs.Prelude.{cond}
use Rattle.std.specs.List.{filter}
use Rattle.std.proofs.lemmas.List.{map-append}
use Rattle.std.proofs.lemmas.List.Elements.{filter_more}
use Rattle.itip_explain.specs.declared.told.Place.{Place}
use Rattle.itip_explain.specs.declared.told.ToldItem.{ToldItem}
use Rattle.itip_items.specs.declared.item.Item.{Item}
use Rattle.itip_inbox.specs.Following.{is_about, told_in, told_item}
use Rattle.itip_inbox.proofs.texts.note_of.Goals as goal
use Rattle.itip_inbox.proofs.texts.note_of.Goals.{then-is_about+in_ok-clone+in_ok-push, else-is_about}

-- one item more is looked at
module _ (p : Item → Bool) (place : Place) (items : List Item) (i : ℕ) (item : Item) (below : i < length items)
    (here : item ≡ get_or items i item) (before told : List ToldItem) (so_far : told ≡ before ++ told_in place (filter p (take i items)))
  where
    one_more : filter p (take (i + 1) items) ≡ filter p (take i items) ++ cond (p item) (item ∷ []) []
    one_more = filter_more p items i item below ∙
        ap (λ (y : Item). filter p (take i items) ++ cond (p y) (y ∷ []) []) (sym here)

    all_more : before ++ told_in place (filter p (take (i + 1) items)) ≡ told ++ told_in place (cond (p item) (item ∷ []) [])
    all_more =
        ap (λ (ys : List Item). before ++ told_in place ys) one_more ∙
        ap (λ (t : List ToldItem). before ++ t) (map-append (told_item place) (filter p (take i items)) (cond (p item) (item ∷ []) [])) ∙
        sym (append_assoc before (told_in place (filter p (take i items))) (told_in place (cond (p item) (item ∷ []) []))) ∙
        ap (λ (t : List ToldItem). t ++ told_in place (cond (p item) (item ∷ []) [])) (sym so_far)

    passed : p item ≡ true → told ++ told_item place item ∷ [] ≡ before ++ told_in place (filter p (take (i + 1) items))
    passed passes = sym (all_more ∙ ap (λ (b : Bool). told ++ told_in place (cond b (item ∷ []) [])) passes)

    left_out : p item ≡ false → told ≡ before ++ told_in place (filter p (take (i + 1) items))
    left_out fails = sym (all_more ∙ ap (λ (b : Bool). told ++ told_in place (cond b (item ∷ []) [])) fails ∙ append-nil told)

pub loop-item-preserved : goal.loop-item-preserved
loop-item-preserved c = elim c.if-is_about.branch [
  | then-is_about+in_ok-clone+in_ok-push w ↦
      ap (λ v. v.items) w.told-is ∙ w.in_ok-push.ensures.items ∙
      ap (λ (y : Item). c.loop-item.told.items ++ told_item c.args.place y ∷ []) w.in_ok-clone.ensures.cases ∙
      passed (is_about c.args.uid.now) c.args.place c.args.items.now c.loop-item.item-index c.item-item.result c.loop-item-test.true
      c.item-item.is c.args.told.now.items c.loop-item.told.items c.loop-item.invariant (sym c.is_about.ensures ∙ w.if-is_about.true)
  | else-is_about w ↦
      ap (λ v. v.items) w.told-is ∙
      left_out (is_about c.args.uid.now) c.args.place c.args.items.now c.loop-item.item-index c.item-item.result c.loop-item-test.true
      c.item-item.is c.args.told.now.items c.loop-item.told.items c.loop-item.invariant (sym c.is_about.ensures ∙ w.if-is_about.false)
]
