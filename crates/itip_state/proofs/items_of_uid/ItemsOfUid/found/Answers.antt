use Rattle.std.proofs.Common.{◌≡◌, ◌∙◌, List, map, sym, ap, subst, rules}
use Rattle.std.specs.List.{Contains}
use Rattle.std.proofs.lemmas.Fn.{always_returns_same}
use Rattle.itip_items.specs.declared.item.Item.{Item}
use Rattle.itip_state.specs.Kept.{IsBest, AscendKeys}
use Rattle.itip_state.specs.Parts.{parts_cmp}
use Rattle.itip_state.specs.Slots.{slot_exact}
use Rattle.itip_state.proofs.Finding.{AscendSlots, as_key, slots_ascend, parts_rise, mapped_in, none_with_parts}
use Rattle.itip_state.proofs.OfKey.{best_in}
use Rattle.itip_state.proofs.items_of_uid.ItemsOfUid.found.Goals as goal

pub returns-in-Ok : goal.returns-in-Ok
returns-in-Ok c = λ key has.
    let xs = c.as_slice-items.result.now in
    let inside : map (λ item. item.now) xs ≡ map (λ item. item.now) c.self.inside.items.items =
    ap (map (λ item. item.now)) c.as_slice-items.ensures.value in
    let item : Item = c.index-items-place.result.now in
    let by_key = rw c.in-Ok.is at (c.binary_search_by.ensures.position (λ item. parts_cmp item.now.key c.args.parts.now)
    (always_returns_same _ _ _ (λ a r f k. search rules))) in
    subst (λ (items : List Item). IsBest items key item) (inside ∙ ap (λ p. p.items) c.self.view_is)
    (best_in (map (λ item. item.now) xs) (subst AscendKeys (sym inside) c.self.invariant.ascend) key item
    (mapped_in (λ item. item.now) xs c.in-Ok.place c.index-items-place.result c.in-Ok.ensures.bound c.index-items-place.is)
    (slot_exact item.key key (sym (as_key item.key key c.args.parts.now has) ∙
    ap (λ (x : _). parts_cmp x.now.key c.args.parts.now) c.index-items-place.is ∙ by_key c.index-items-place.result)))

pub returns-in-Err : goal.returns-in-Err
returns-in-Err c = λ key has.
    let xs = c.as_slice-items.result.now in
    let inside : map (λ item. item.now) xs ≡ map (λ item. item.now) c.self.inside.items.items =
    ap (map (λ item. item.now)) c.as_slice-items.ensures.value in
    let by_key = rw c.in-Err.is at (c.binary_search_by.ensures.position (λ item. parts_cmp item.now.key c.args.parts.now)
    (always_returns_same _ _ _ (λ a r f k. search rules))) in
    subst (λ (items : List Item). (i : Item) → Contains items i → i.key ≡ key → ⊥) (inside ∙ ap (λ p. p.items) c.self.view_is)
    (none_with_parts (λ item. item.now) key c.args.parts.now has xs c.in-Err.field-0
    (by_key (parts_rise (λ item. item.now) key c.args.parts.now has xs (subst AscendSlots (sym inside)
    (slots_ascend _ _ c.self.invariant.about c.self.invariant.ascend)))))
