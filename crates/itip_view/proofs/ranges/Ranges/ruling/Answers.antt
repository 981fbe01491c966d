use Rattle.std.proofs.Common.{◌≡◌, ◌<◌, ◌∙◌, ℕ, List, length, map, get_or, sym, ap, subst}
use Rattle.std.proofs.Math.ListN.{get_or-map}
use Rattle.std.proofs.lemmas.List.{get_or_default, length-map}
use Rattle.itip_moment.specs.declared.moment.Moment.{Moment}
use Rattle.itip_items.specs.declared.item.Item.{Item}
use Rattle.itip_state.specs.OfUid.{UidPart}
use Rattle.itip_view.specs.Ruling.{AreRangesInOrder, RulesAt}
use Rattle.itip_view.specs.Standing.{Rules}
use Rattle.itip_view.specs.declared.keyed_item.KeyedItem.{KeyedItem}
use Rattle.itip_view.specs.declared.ranges.RangeFrom.{RangeFrom}
use Rattle.itip_view.proofs.ranges.Ranges.ruling.Goals as goal

same_length : (found : List RangeFrom) (governing : List KeyedItem) →
    map (λ range. range.item.now) found ≡ map (λ range. range.item.now) governing → length found ≡ length governing
same_length found governing same = sym (length-map found (λ range. range.item.now)) ∙ ap length same ∙
    length-map governing (λ range. range.item.now)

-- the items at a place of two lists of the same items
one_there : (found : List RangeFrom) (governing : List KeyedItem) →
    map (λ range. range.item.now) found ≡ map (λ range. range.item.now) governing → (place : ℕ) → place < length governing →
    (range : RangeFrom) (g : KeyedItem)
    → get_or found place range ≡ range → range.item.now ≡ (get_or governing place g).item.now
one_there found governing same place below range g here =
    ap (λ (r : RangeFrom). r.item.now) (sym here) ∙ sym (get_or-map (λ (r : RangeFrom). r.item.now) found place range) ∙
    ap (λ (xs : List Item). get_or xs place range.item.now) same
    ∙ get_or_default (map (λ (r : KeyedItem). r.item.now) governing) place range.item.now g.item.now
    (rw (length-map governing (λ (r : KeyedItem). r.item.now)) below)
    ∙ get_or-map (λ (r : KeyedItem). r.item.now) governing place g

pub index-requires : goal.index-requires
index-requires c =
    let found : List RangeFrom = c.as_slice.result.now in
    let are : AreRangesInOrder c.args.self.now found = subst (λ (p : UidPart). AreRangesInOrder p found) c.self.view_is
    (subst (λ (xs : List RangeFrom). AreRangesInOrder c.self.inside.items.now xs) (sym c.as_slice.ensures.value) c.self.invariant.0) in
    let at : RulesAt c.args.self.now found c.args.at.now c.in-Some.place = c.in-Some.ensures.rules c.args.self.now are in
    subst (λ (n : ℕ). c.in-Some.place < n) (same_length found c.self.inside.governing.items
    (ap (map (λ range. range.item.now)) c.as_slice.ensures.value ∙ c.self.invariant.1) ∙ sym c.self.inside.governing.ok.0) at.inside

pub returns-in-Some : goal.returns-in-Some
returns-in-Some c =
    let part : UidPart = c.args.self.now in
    let found : List RangeFrom = c.as_slice.result.now in
    let governing : List KeyedItem = c.self.inside.governing.items in
    let same : map (λ range. range.item.now) found ≡ map (λ range. range.item.now) governing =
    ap (map (λ range. range.item.now)) c.as_slice.ensures.value ∙ c.self.invariant.1 in
    let are : AreRangesInOrder part found = subst (λ (p : UidPart). AreRangesInOrder p found) c.self.view_is
    (subst (λ (xs : List RangeFrom). AreRangesInOrder c.self.inside.items.now xs) (sym c.as_slice.ensures.value) c.self.invariant.0) in
    let at : RulesAt part found c.args.at.now c.in-Some.place = c.in-Some.ensures.rules part are in
    let below : c.in-Some.place < length governing = subst (λ (n : ℕ). c.in-Some.place < n) (same_length found governing same) at.inside in
    let one : at.range.item.now ≡ c.index.result.now.item.now =
    one_there found governing same c.in-Some.place below at.range c.index.result.now at.is ∙
    ap (λ (g : KeyedItem). g.item.now) (sym c.index.ensures) in
    subst (λ (i : Item). (id : Moment) × Rules part.items part.uid c.args.at.now id i) one (at.range.id.now, at.rules)

pub returns-in-None : goal.returns-in-None
returns-in-None c =
    let found : List RangeFrom = c.as_slice.result.now in
    let are : AreRangesInOrder c.args.self.now found = subst (λ (p : UidPart). AreRangesInOrder p found) c.self.view_is
    (subst (λ (xs : List RangeFrom). AreRangesInOrder c.self.inside.items.now xs) (sym c.as_slice.ensures.value) c.self.invariant.0) in
    c.in-None.ensures.rules c.args.self.now are
