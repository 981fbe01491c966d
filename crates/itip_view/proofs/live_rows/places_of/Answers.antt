use Rattle.std.proofs.Common.{◌≡◌, ◌+◌, ◌<◌, ◌∙◌, ◌∷◌, [], ◌++◌, ◌↔◌, ℕ, List, Result, Ok, Err, take_all, map, take, length, get_or, sym}
use Rattle.std.proofs.Common.{ap, subst, Option, true, false}
use Rattle.std.specs.Prelude.{IfOk}
use Rattle.std.specs.List.{Contains}
use Rattle.std.specs.List.Sorted.{IsStrictlySortedBy}
use Rattle.std.specs.Option.{option_copied}
use Rattle.itip_moment.specs.Order.{moment_cmp}
use Rattle.itip_view.specs.RowsOfUid.{AreOccurrencesOf, ArePlaces}
use Rattle.itip_view.specs.declared.window.Window.{Window}
use Rattle.std.proofs.lemmas.List.{length-map, take_more}
use Rattle.std.proofs.Math.ListN.{get_or-map}
use Rattle.itip_moment.specs.declared.moment.Moment.{Moment}
use Rattle.itip_items.specs.declared.item.Item.{Item}
use Rattle.itip_view.proofs.Placing.{Places, IsPlacedBy, places_pass, places_more, places_are}
use Rattle.itip_view.proofs.live_rows.places_of.Goals as goal
use Rattle.itip_view.proofs.live_rows.places_of.Goals.{in-Instance+then-stands_beside+in_ok-clone+in_ok-push}
use Rattle.itip_view.proofs.live_rows.places_of.Goals.{in-Instance+else-stands_beside, in_default}

pub loop-item-preserved : goal.loop-item-preserved
loop-item-preserved c =
    let items : List Item = map (λ item. item.now) c.as_slice-item-items.result.now in
    let item : Item = c.item-item.result.now in
    let i : ℕ = c.loop-item.item-index in
    let below : i < length items = rw (length-map c.as_slice-item-items.result.now (λ item. item.now)) c.loop-item-test.true in
    let here : get_or items i item ≡ item = get_or-map (λ item. item.now) c.as_slice-item-items.result.now i c.item-item.result ∙
    ap (λ item. item.now) (sym c.item-item.is) in
    let done : take (i + 1) items ≡ take i items ++ item ∷ [] = take_more items i item below ∙
    ap (λ (x : Item). take i items ++ x ∷ []) here in
    let before : List Moment = c.args.occurrences.items in
    let found : List Moment = c.loop-item.places.items in
    let series : Option Item = option_copied c.series-series.result in
    elim c.match-item.branch [
      | in-Instance+then-stands_beside+in_ok-clone+in_ok-push w ↦
          let pushed : c.match-item.places.items ≡ found ++ w.in-Instance.at ∷ [] = ap (λ v. v.items) w.places-is ∙
          w.in_ok-push.ensures.items ∙ ap (λ (m : Moment). found ++ m ∷ []) w.in_ok-clone.ensures.cases in
          let by : IsPlacedBy series w.in-Instance.at item =
          record { uid = w.in-Instance.field-0; about = w.in-Instance.is; beside = w.stands_beside.ensures.0 w.if-stands_beside.true }
          in
          subst (λ (ms : List Moment). Places series before (take (i + 1) items) ms) (sym pushed)
          (subst (λ (xs : List Item). Places series before xs (found ++ w.in-Instance.at ∷ [])) (sym done)
          (places_more series before (take i items) found c.loop-item.invariant item w.in-Instance.at by))
      | in-Instance+else-stands_beside w ↦
          subst (λ (ms : List Moment). Places series before (take (i + 1) items) ms) (sym (ap (λ v. v.items) w.places-is))
          (subst (λ (xs : List Item). Places series before xs found) (sym done)
          (places_pass series before (take i items) found c.loop-item.invariant item
          (λ at by. let x : true ≡ false = sym (w.stands_beside.ensures.1 by.beside) ∙ w.if-stands_beside.false in cc)))
      | in_default w ↦
          subst (λ (ms : List Moment). Places series before (take (i + 1) items) ms) (sym (ap (λ v. v.items) w.places-is))
          (subst (λ (xs : List Item). Places series before xs found) (sym done)
          (places_pass series before (take i items) found c.loop-item.invariant item
          (λ at by. w.in_default.not-Instance by.uid at by.about)))
    ]

pub returns : goal.returns
returns c =
    let items : List Item = map (λ item. item.now) c.as_slice-item-items.result.now in
    let kept : List Item = c.args.items.now.items in
    let uid : List ℕ = c.args.items.now.uid in
    let series : Option Item = option_copied c.series-series.result in
    let found : List Moment = c.loop-item.places.items in
    let before : List Moment = c.args.occurrences.items in
    let all : take c.loop-item.item-index items ≡ kept =
    take_all c.loop-item.item-index items (rw (length-map c.as_slice-item-items.result.now (λ item. item.now)) c.loop-item-test.false) ∙
    c.as_slice-item-items.ensures.items in
    on_ok_pair c.sorted_moments.result (λ sorted. IsStrictlySortedBy moment_cmp sorted.items) (λ sorted. (at : Moment) →
    Contains sorted.items at ↔ Contains found at)
    (λ places. (window : Window) → AreOccurrencesOf kept window uid before → ArePlaces kept window uid places.items)
    (λ places ascend same window of. places_are kept window uid series before found places.items
    c.as_slice-item-items.ensures.part.ascend c.as_slice-item-items.ensures.part.about c.series-series.ensures
    of (subst (λ (xs : List Item). Places series before xs found) all c.loop-item.invariant) ascend same)
    c.sorted_moments.ensures.ascend c.sorted_moments.ensures.same
  where
    on_ok_pair : {A E : Type 0} (r : Result A E) (P Q R : A → Type 0) → ((a : A) → P a → Q a → R a) → IfOk r P → IfOk r Q → IfOk r R
    on_ok_pair (Ok a) P Q R f p q = f a p q
    on_ok_pair (Err e) P Q R f p q = tt
