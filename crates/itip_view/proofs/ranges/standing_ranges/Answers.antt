use Rattle.std.proofs.Common.{◌≡◌, ◌+◌, ◌<◌, ◌∙◌, ◌∷◌, [], ◌++◌, ℕ, List, take_all, map, take, length, get_or, refl, sym, ap, subst, Option}
use Rattle.std.proofs.Common.{true, false}
use Rattle.std.specs.Option.{option_copied}
use Rattle.std.proofs.lemmas.List.{length-map, take_more}
use Rattle.std.proofs.Math.ListN.{get_or-map}
use Rattle.itip_items.specs.declared.item.Item.{Item}
use Rattle.itip_view.specs.declared.ranges.RangeFrom.{RangeFrom}
use Rattle.itip_view.proofs.Ranging.{FoundIn, IsRangeBy, found_pass, found_more, found_all}
use Rattle.itip_view.proofs.ranges.standing_ranges.Goals as goal
use Rattle.itip_view.proofs.ranges.standing_ranges.Goals.{in-Range+then-stands_beside+in_ok-push, in-Range+else-stands_beside, in_default}

pub loop-item-preserved : goal.loop-item-preserved
loop-item-preserved c =
    let items : List Item = map (λ item. item.now) c.as_slice-item-items.result.now in
    let item : Item = c.item-item.result.now in
    let i : ℕ = c.loop-item.item-index in
    let below : i < length items = rw (length-map c.as_slice-item-items.result.now (λ item. item.now)) c.loop-item-test.true in
    let here : get_or items i item ≡ item = get_or-map (λ item. item.now) c.as_slice-item-items.result.now i c.item-item.result ∙
    ap (λ item. item.now) (sym c.item-item.is) in
    let done : take (i + 1) items ≡ take i items ++ item ∷ [] = take_more items i item below ∙
    ap (λ (x : Item). take i items ++ x ∷ []) here in
    let found : List RangeFrom = c.loop-item.found.items in
    let series : Option Item = option_copied c.series-series.result in
    let pass : (after : List RangeFrom) → after ≡ found → FoundIn series (take i items ++ item ∷ []) found →
    FoundIn series (take (i + 1) items) after =
    λ after same so. subst (λ (fs : List RangeFrom). FoundIn series (take (i + 1) items) fs) (sym same)
    (subst (λ (xs : List Item). FoundIn series xs found) (sym done) so) in
    let grow : (after : List RangeFrom) (range : RangeFrom) → after ≡ found ++ range ∷ [] → range.item.now ≡ item →
    IsRangeBy series range.id.now item → FoundIn series (take (i + 1) items) after =
    λ after range same is by. subst (λ (fs : List RangeFrom). FoundIn series (take (i + 1) items) fs) (sym same)
    (subst (λ (xs : List Item). FoundIn series xs (found ++ range ∷ [])) (sym done)
    (found_more series (take i items) found c.loop-item.invariant item range is by)) in
    elim c.match-item.branch [
      | in-Range+then-stands_beside+in_ok-push w ↦
          grow c.match-item.found.items _ (ap (λ v. v.items) w.found-is ∙ w.in_ok-push.ensures.items) refl
          (record { uid = w.in-Range.field-0; about = w.in-Range.is; beside = w.stands_beside.ensures.0 w.if-stands_beside.true })
      | in-Range+else-stands_beside w ↦
          pass c.match-item.found.items (ap (λ v. v.items) w.found-is) (found_pass series (take i items) found c.loop-item.invariant item
          (λ id by. let x : true ≡ false = sym (w.stands_beside.ensures.1 by.beside) ∙ w.if-stands_beside.false in cc))
      | in_default w ↦
          pass c.match-item.found.items (ap (λ v. v.items) w.found-is) (found_pass series (take i items) found c.loop-item.invariant item
          (λ id by. w.in_default.not-Range by.uid id by.about))
    ]

pub returns : goal.returns
returns c =
    let items : List Item = map (λ item. item.now) c.as_slice-item-items.result.now in
    let all : take c.loop-item.item-index items ≡ c.args.items.now.items =
    take_all c.loop-item.item-index items (rw (length-map c.as_slice-item-items.result.now (λ item. item.now)) c.loop-item-test.false) ∙
    c.as_slice-item-items.ensures.items in
    found_all c.args.items.now (option_copied c.series-series.result) c.loop-item.found.items c.as_slice-item-items.ensures.part
    c.series-series.ensures
    (subst (λ (xs : List Item). FoundIn (option_copied c.series-series.result) xs c.loop-item.found.items) all c.loop-item.invariant)
