use Rattle.std.proofs.Common.{◌≡◌, ◌+◌, ◌++◌, ◌∷◌, [], ◌∙◌, List, take_all, map, take, sym, ap, subst, true, false}
use Rattle.std.specs.List.{Contains}
use Rattle.std.proofs.lemmas.List.{length-map}
use Rattle.itip_items.specs.declared.item.Item.{Item}
use Rattle.itip_state.specs.Kept.{AscendKeys, SameItems}
use Rattle.itip_state.proofs.Finding.{mapped_in}
use Rattle.itip_report.specs.Lines.{AscendPlaces, AreReported}
use Rattle.itip_report.specs.Sought.{IsSought}
use Rattle.itip_report.proofs.Choosing.{Chosen, looked_pass, looked_more, chosen_by_place}
use Rattle.itip_report.proofs.Mapped.{map_both, if_ok_both}
use Rattle.itip_report.proofs.SameOf.{sought_heard}
use Rattle.itip_report.proofs.sought.sought_items.Goals as goal
use Rattle.itip_report.proofs.sought.sought_items.Goals.{then-is_sought+in_ok-push, else-is_sought}

pub is_sought-requires : goal.is_sought-requires
is_sought-requires c = record {
  over = c.requires;
  among = record {
    part_is = c.as_slice-item-items.ensures.part;
    there = subst (λ (items : List Item). Contains items c.item-item.result.now) c.as_slice-item-items.ensures.items
        (mapped_in (λ item. item.now) c.as_slice-item-items.result.now c.loop-item.item-index c.item-item.result c.loop-item-test.true
        c.item-item.is);
  };
}

pub loop-item-preserved : goal.loop-item-preserved
loop-item-preserved c =
    let refs = c.as_slice-item-items.result.now in
    let Is : Item → Type 0 = IsSought c.args.sought.now c.args.items.now in
    let ordered : AscendKeys (map (λ item. item.now) refs) =
    subst AscendKeys (sym c.as_slice-item-items.ensures.items) c.as_slice-item-items.ensures.part.ascend in
    let found : List Item = map (λ item. item.now) c.loop-item.found.items in
    elim c.if-is_sought.branch [
      | then-is_sought+in_ok-push w ↦
          let pushed : map (λ item. item.now) c.if-is_sought.found.items ≡ found ++ c.item-item.result.now ∷ [] =
          ap (λ v. map (λ item. item.now) v.items) w.found-is ∙ ap (map (λ item. item.now)) w.in_ok-push.ensures.items ∙
          map_both (λ item. item.now) c.loop-item.found.items (c.item-item.result ∷ []) in
          subst (Chosen Is (take (c.loop-item.item-index + 1) (map (λ item. item.now) refs))) (sym pushed)
          (looked_more Is refs ordered c.loop-item.item-index c.item-item.result c.loop-item-test.true c.item-item.is found
          c.loop-item.invariant (c.is_sought.ensures.0 w.if-is_sought.true))
      | else-is_sought w ↦
          subst (Chosen Is (take (c.loop-item.item-index + 1) (map (λ item. item.now) refs)))
          (sym (ap (λ v. map (λ item. item.now) v.items) w.found-is))
          (looked_pass Is refs ordered c.loop-item.item-index c.item-item.result c.loop-item-test.true c.item-item.is found
          c.loop-item.invariant
          (λ is. let x : true ≡ false = sym (c.is_sought.ensures.1 is) ∙ w.if-is_sought.false in cc))
    ]

pub returns : goal.returns
returns c =
    let items : List Item = map (λ item. item.now) c.as_slice-item-items.result.now in
    let found : List Item = map (λ item. item.now) c.loop-item.found.items in
    let Is : Item → Type 0 = IsSought c.args.sought.now c.args.items.now in
    let kept : List Item = c.args.items.now.items in
    let all : take c.loop-item.item-index items ≡ kept =
    take_all c.loop-item.item-index items (rw (length-map c.as_slice-item-items.result.now (λ item. item.now))
    c.loop-item-test.false) ∙ c.as_slice-item-items.ensures.items in
    if_ok_both c.by_place.result (λ sorted. AscendPlaces (map (λ item. item.now) sorted.items))
    (λ sorted. SameItems (map (λ item. item.now) sorted.items) found)
    (λ sorted. AreReported Is (map (λ item. item.now) sorted.items))
    (λ sorted ascend same. chosen_by_place Is kept found (map (λ item. item.now) sorted.items)
    (sought_heard c.args.items.now c.args.sought.now)
    (subst (λ (xs : List Item). Chosen Is xs found) all c.loop-item.invariant) ascend same)
    c.by_place.ensures.ascend c.by_place.ensures.same
