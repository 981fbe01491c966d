use Rattle.std.proofs.Common.{◌≡◌, ◌∙◌, ◌++◌, ◌∷◌, List, [], map, inl, inr, refl, sym, ap, subst}
use Rattle.std.specs.Vec.Iter.{into_iter_items}
use Rattle.itip_items.specs.declared.item.Item.{Item}
use Rattle.itip_desk.specs.Index.{HasSettled}
use Rattle.itip_desk.specs.declared.index.Index.{Index}
use Rattle.itip_desk.proofs.Touching.{settled_none, settled_kept, settled_out}
use Rattle.itip_desk.proofs.indexed.settle.Goals as goal

passed : (xs : List Item) (x : Item) (ys : List Item) → xs ++ x ∷ ys ≡ (xs ++ x ∷ []) ++ ys
passed [] x ys = refl
passed (z ∷ xs) x ys = ap (λ (rest : List Item). z ∷ rest) (passed xs x ys)

pub loop-change-init : goal.loop-change-init
loop-change-init c = record {
  done = [];
  whole = ap (map (λ ch. ch.item)) (sym c.into_iter-change-iterator.ensures.into_iter_gives.0);
  settled = settled_none c.args.state.now c.args.index.now;
}

pub loop-change-preserved : goal.loop-change-preserved
loop-change-preserved c =
    let done : List Item = c.loop-change.invariant.done in
    let item : Item = c.in-Some.change.item in
    record {
      done = done ++ item ∷ [];
      whole = c.loop-change.invariant.whole ∙ ap (λ cs. done ++ map (λ ch. ch.item) cs) c.in-Some.ensures.steps.0 ∙
          passed done item (map (λ ch. ch.item) (into_iter_items c.next.new.self));
      settled = elim c.settle_one.ensures [
        | inl kept ↦ subst (λ (s : Index). HasSettled c.args.state.now (done ++ item ∷ []) c.args.index.now s) (sym kept.1)
            (settled_kept c.args.state.now done item c.args.index.now c.loop-change.index kept.0 c.loop-change.invariant.settled)
        | inr out ↦ settled_out c.args.state.now done item c.args.index.now c.loop-change.index c.settle_one.new.index out.0 out.1
            c.loop-change.invariant.settled
      ];
    }
