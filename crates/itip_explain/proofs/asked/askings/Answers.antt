use Rattle.std.proofs.Common.{◌≡◌, ◌+◌, ◌<◌, ◌∷◌, [], ◌++◌, ◌∙◌, ℕ, List, map, length, get_or, take, sym, ap, subst}
use Rattle.std.proofs.lemmas.List.{length-map, take_more}
use Rattle.std.proofs.Math.ListN.{get_or-map}
use Rattle.itip_items.specs.declared.item.Item.{Item}
use Rattle.itip_explain.specs.Asking.{AreAskings, IsAskedBy}
use Rattle.itip_explain.proofs.Askings.{items_more}
use Rattle.itip_explain.proofs.asked.askings.Goals as goal

pub loop-item-preserved : goal.loop-item-preserved
loop-item-preserved c =
    let items : List Item = map (λ item. item.now) c.args.items.now in
    let item : Item = c.item-item.result.now in
    let i : ℕ = c.loop-item.item-index in
    let below : i < length items = rw (length-map c.args.items.now (λ item. item.now)) c.loop-item-test.true in
    let here : get_or items i item ≡ item = get_or-map (λ item. item.now) c.args.items.now i c.item-item.result ∙
    ap (λ item. item.now) (sym c.item-item.is) in
    let done : take (i + 1) items ≡ take i items ++ item ∷ [] = take_more items i item below ∙
    ap (λ (x : Item). take i items ++ x ∷ []) here in
    subst (λ (ls : List Item). AreAskings (IsAskedBy ls) c.add_item.new.found.items) (sym done)
    (items_more (take i items) item c.loop-item.found.items c.add_item.new.found.items c.loop-item.invariant c.in_ok-add_item.ensures)
