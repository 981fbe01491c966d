use Rattle.std.proofs.Common.{◌≡◌, ◌+◌, ◌++◌, ◌∷◌, [], ◌∙◌, List, take_all, map, take, sym, ap, subst, true, false}
use Rattle.std.specs.List.{Contains}
use Rattle.std.proofs.lemmas.List.{length-map}
use Rattle.itip_items.specs.declared.item.Item.{Item}
use Rattle.itip_state.specs.Kept.{AscendKeys, SameItems}
use Rattle.itip_state.proofs.Finding.{mapped_in}
use Rattle.itip_report.specs.Lines.{AscendPlaces, AreReported}
use Rattle.itip_report.proofs.Choosing.{Chosen, looked_pass, looked_more, chosen_by_place}
use Rattle.itip_report.proofs.Mapped.{map_both, if_ok_both}
use Rattle.itip_writing.specs.Endings.{EndsLater}
use Rattle.itip_writing.proofs.EndsTold.{ends_heard}
use Rattle.itip_writing.proofs.onward.later_items.Goals as goal
use Rattle.itip_writing.proofs.onward.later_items.Goals.{then-ends_later+in_ok-push, else-ends_later}

pub ends_later-requires : goal.ends_later-requires
ends_later-requires c = record {
  part_is = c.as_slice-item-items.ensures.part;
  there = subst (λ (items : List Item). Contains items c.item-item.result.now) c.as_slice-item-items.ensures.items
      (mapped_in (λ item. item.now) c.as_slice-item-items.result.now c.loop-item.item-index c.item-item.result c.loop-item-test.true
      c.item-item.is);
}

pub loop-item-preserved : goal.loop-item-preserved
loop-item-preserved c =
    let refs = c.as_slice-item-items.result.now in
    let Is : Item → Type 0 = EndsLater c.args.items.now.items c.args.items.now.uid c.args.from.now in
    let ordered : AscendKeys (map (λ item. item.now) refs) =
    subst AscendKeys (sym c.as_slice-item-items.ensures.items) c.as_slice-item-items.ensures.part.ascend in
    let later : List Item = map (λ item. item.now) c.loop-item.later.items in
    elim c.if-ends_later.branch [
      | then-ends_later+in_ok-push w ↦
          let pushed : map (λ item. item.now) c.if-ends_later.later.items ≡ later ++ c.item-item.result.now ∷ [] =
          ap (λ v. map (λ item. item.now) v.items) w.later-is ∙ ap (map (λ item. item.now)) w.in_ok-push.ensures.items ∙
          map_both (λ item. item.now) c.loop-item.later.items (c.item-item.result ∷ []) in
          subst (Chosen Is (take (c.loop-item.item-index + 1) (map (λ item. item.now) refs))) (sym pushed)
          (looked_more Is refs ordered c.loop-item.item-index c.item-item.result c.loop-item-test.true c.item-item.is later
          c.loop-item.invariant (c.ends_later.ensures.0 w.if-ends_later.true))
      | else-ends_later w ↦
          subst (Chosen Is (take (c.loop-item.item-index + 1) (map (λ item. item.now) refs)))
          (sym (ap (λ v. map (λ item. item.now) v.items) w.later-is))
          (looked_pass Is refs ordered c.loop-item.item-index c.item-item.result c.loop-item-test.true c.item-item.is later
          c.loop-item.invariant
          (λ is. let x : true ≡ false = sym (c.ends_later.ensures.1 is) ∙ w.if-ends_later.false in cc))
    ]

pub returns : goal.returns
returns c =
    let items : List Item = map (λ item. item.now) c.as_slice-item-items.result.now in
    let later : List Item = map (λ item. item.now) c.loop-item.later.items in
    let Is : Item → Type 0 = EndsLater c.args.items.now.items c.args.items.now.uid c.args.from.now in
    let kept : List Item = c.args.items.now.items in
    let all : take c.loop-item.item-index items ≡ kept =
    take_all c.loop-item.item-index items (rw (length-map c.as_slice-item-items.result.now (λ item. item.now))
    c.loop-item-test.false) ∙ c.as_slice-item-items.ensures.items in
    if_ok_both c.by_place.result (λ sorted. AscendPlaces (map (λ item. item.now) sorted.items))
    (λ sorted. SameItems (map (λ item. item.now) sorted.items) later)
    (λ sorted. AreReported Is (map (λ item. item.now) sorted.items))
    (λ sorted ascend same. chosen_by_place Is kept later (map (λ item. item.now) sorted.items)
    (ends_heard kept c.args.items.now.uid c.args.from.now)
    (subst (λ (xs : List Item). Chosen Is xs later) all c.loop-item.invariant) ascend same)
    c.by_place.ensures.ascend c.by_place.ensures.same
