use Rattle.std.proofs.Common.{◌≡◌, List, [], ◌∷◌, ◌++◌, ◌+◌, ◌∙◌, ap, sym, subst, map, take, refl}
use Rattle.std.proofs.lemmas.List.{take_more, take_all, map-append}
use Rattle.itip_items.specs.declared.item.Item.{Item}
use Rattle.itip_state.specs.Held.{HoldKept}
use Rattle.itip_state.specs.Newer.{AreTakenIn}
use Rattle.itip_state.proofs.Members.{on_ok_then, single_is}
use Rattle.itip_state.proofs.Waiting.{none_taken, taken_more, all_taken}
use Rattle.itip_state.proofs.hear.hear_each.Goals as goal

pub take_back-requires : goal.take_back-requires
take_back-requires c = (c.args.held.now, c.hear_noted.ensures.noted c.args.held.now c.loop-item.invariant.undo)

pub loop-item-init : goal.loop-item-init
loop-item-init c = record {
  taken = subst (AreTakenIn c.args.held.now c.args.held.now []) (sym c.new-newer.ensures.items) (none_taken c.args.held.now);
  undo = rw c.new-changes.ensures.items refl;
}

pub loop-item-preserved : goal.loop-item-preserved
loop-item-preserved c =
    let before : List Item = map (λ item. item.now) (take c.loop-item.item-index c.args.items.now) in
    let more : map (λ item. item.now) (take (c.loop-item.item-index + 1) c.args.items.now) ≡ before ++
    c.item-item-in-loop-item.result.now ∷ [] =
    ap (map (λ item. item.now)) (take_more c.args.items.now c.loop-item.item-index c.item-item-in-loop-item.result c.loop-item-test.true
    ∙ ap (λ x. take c.loop-item.item-index c.args.items.now ++ x ∷ []) (sym c.item-item-in-loop-item.is)) ∙
    map-append (λ item. item.now) (take c.loop-item.item-index c.args.items.now) (c.item-item-in-loop-item.result ∷ []) in
    record {
      taken = subst (λ (xs : List Item). AreTakenIn c.args.held.now c.hear_noted.new.held xs c.hear_noted.new.newer.items) (sym more)
          (taken_more c.args.held.now c.loop-item.held c.hear_noted.new.held before c.item-item-in-loop-item.result.now
          c.loop-item.newer.items c.hear_noted.new.newer.items c.loop-item.invariant.taken c.in_default-hear_noted.ensures.taken);
      undo = c.hear_noted.ensures.noted c.args.held.now c.loop-item.invariant.undo;
    }

pub returns-clause-ok : goal.returns-clause-ok
returns-clause-ok c =
    all_taken c.args.held.now c.loop-item.held c.raise_all.new.held (map (λ item. item.now) c.args.items.now) c.loop-item.newer.items
    (subst (λ xs. AreTakenIn c.args.held.now c.loop-item.held (map (λ item. item.now) xs) c.loop-item.newer.items)
    (take_all c.loop-item.item-index c.args.items.now c.loop-item-test.false) c.loop-item.invariant.taken) c.raise_all.ensures

pub returns-in-len1-clause-ok : goal.returns-in-len1-clause-ok
returns-in-len1-clause-ok c = on_ok_then c.hear.result
    (λ kept heard h. subst (λ xs. HoldKept (heard ++ map (λ item. item.now) xs) c.hear.new.held)
    (sym (single_is c.item-item.result c.args.items.now c.in-len1.len_at_least c.in-len1.len_below c.item-item.is)) (kept heard h))
    c.hear.ensures.kept
