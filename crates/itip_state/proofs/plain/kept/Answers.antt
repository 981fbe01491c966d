use Rattle.std.specs.List.{Contains}
use Rattle.std.proofs.Common.{◌≡◌, ◌+◌, ◌∙◌, sym, ap, subst, List, take, [], ◌∷◌, ◌++◌, true, false}
use Rattle.std.proofs.lemmas.List.{take_more, take_all}
use Rattle.itip_items.specs.declared.item.Item.{Item}
use Rattle.itip_state.proofs.KeptOnes.{Collects, collected, collect_one, collect_other}
use Rattle.itip_state.proofs.plain.kept.Goals as goal

pub returns-clause-kept : goal.returns-clause-kept
returns-clause-kept c = collected c.args.items.now c.loop-item.kept.items
    (subst (λ (xs : List Item). Collects c.args.items.now xs c.loop-item.kept.items)
    (take_all c.loop-item.item-index c.args.items.now c.loop-item-test.false) c.loop-item.invariant)

pub loop-item-preserved-then-not-is_kept : goal.loop-item-preserved-then-not-is_kept
loop-item-preserved-then-not-is_kept c = subst (λ (xs : List Item). Collects c.args.items.now xs c.loop-item.kept.items)
    (sym (take_more c.args.items.now c.loop-item.item-index c.item-item.result c.loop-item-test.true ∙
    ap (λ x. take c.loop-item.item-index c.args.items.now ++ x ∷ []) (sym c.item-item.is)))
    (collect_other c.args.items.now (take c.loop-item.item-index c.args.items.now) c.loop-item.kept.items c.item-item.result
    c.loop-item.invariant
    (λ e. let x : true ≡ false = sym e ∙ sym c.is_kept.ensures ∙ c.if-not-is_kept.true in absurd (cc)))

pub loop-item-preserved-then-has : goal.loop-item-preserved-then-has
loop-item-preserved-then-has c = subst (λ (xs : List Item). Collects c.args.items.now xs c.loop-item.kept.items)
    (sym (take_more c.args.items.now c.loop-item.item-index c.item-item.result c.loop-item-test.true ∙
    ap (λ x. take c.loop-item.item-index c.args.items.now ++ x ∷ []) (sym c.item-item.is)))
    (collect_other c.args.items.now (take c.loop-item.item-index c.args.items.now) c.loop-item.kept.items c.item-item.result
    c.loop-item.invariant
    (λ e. subst (λ (xs : List Item). Contains xs c.item-item.result) c.deref.ensures.value (c.has.ensures.0 c.if-has.true)))

pub loop-item-preserved : goal.loop-item-preserved
loop-item-preserved c =
    let pushed : c.push.new.self.items ≡ c.loop-item.kept.items ++ c.item-item.result ∷ [] = c.in_ok-push.ensures.items ∙
    ap (λ x. c.loop-item.kept.items ++ x ∷ []) c.in_ok-clone.ensures.cases in
    subst (λ (ks : List Item). Collects c.args.items.now (take (c.loop-item.item-index + 1) c.args.items.now) ks) (sym pushed)
    (subst (λ (xs : List Item). Collects c.args.items.now xs (c.loop-item.kept.items ++ c.item-item.result ∷ []))
    (sym (take_more c.args.items.now c.loop-item.item-index c.item-item.result c.loop-item-test.true ∙
    ap (λ x. take c.loop-item.item-index c.args.items.now ++ x ∷ []) (sym c.item-item.is)))
    (collect_one c.args.items.now (take c.loop-item.item-index c.args.items.now) c.loop-item.kept.items c.item-item.result
    c.loop-item.invariant
    (sym c.is_kept.ensures ∙ c.if-not-is_kept.false)
    (λ h. let x : true ≡ false =
    sym (c.has.ensures.1 (subst (λ (xs : List Item). Contains xs c.item-item.result) (sym c.deref.ensures.value) h)) ∙
    c.if-has.false in cc)))
