use Rattle.std.proofs.Common.{◌≡◌, List, [], ◌∷◌, ◌++◌, ◌+◌, ◌∙◌, inl, inr, true, false, ap, sym, subst, refl, map, take}
use Rattle.std.specs.List.{Contains}
use Rattle.std.proofs.lemmas.List.{take_more, take_all, map-append}
use Rattle.std.proofs.lemmas.List.Elements.{Contains-push_cases}
use Rattle.itip_items.specs.declared.item.Item.{Item}
use Rattle.itip_state.specs.Held.{items_of}
use Rattle.itip_state.specs.Told.{IsOutdone, AreOutdone}
use Rattle.itip_state.proofs.Members.{none_in}
use Rattle.itip_state.proofs.Nothing.{map_has}
use Rattle.itip_state.proofs.told.outdoes_all.Goals as goal

pub loop-item-init : goal.loop-item-init
loop-item-init c = λ held i h. absurd (none_in i h)

pub loop-item-preserved : goal.loop-item-preserved
loop-item-preserved c = λ held i h.
    let before : List Item = map (λ item. item.now) (take c.loop-item.item-index c.args.items.now) in
    let more : map (λ item. item.now) (take (c.loop-item.item-index + 1) c.args.items.now) ≡ before ++ c.item-item.result.now ∷ [] =
    ap (map (λ item. item.now)) (take_more c.args.items.now c.loop-item.item-index c.item-item.result c.loop-item-test.true
    ∙ ap (λ x. take c.loop-item.item-index c.args.items.now ++ x ∷ []) (sym c.item-item.is)) ∙
    map-append (λ item. item.now) (take c.loop-item.item-index c.args.items.now) (c.item-item.result ∷ []) in
    elim (Contains-push_cases before c.item-item.result.now i (subst (λ (xs : List Item). Contains xs i) more h)) [
      | inl done ↦ c.loop-item.invariant held i done
      | inr here ↦ subst (λ (j : Item). IsOutdone (items_of c.args.held.now) j) here ((c.outdoes.ensures held).0 c.if-not-outdoes.false)
    ]

pub returns-then-not-outdoes : goal.returns-then-not-outdoes
returns-then-not-outdoes c = λ held. (
  λ t. let x : false ≡ true = t in absurd (cc),
  λ outdone.
      let old : IsOutdone (items_of c.args.held.now) c.item-item.result.now = outdone c.item-item.result.now
      (map_has (λ item. item.now) c.args.items.now c.loop-item.item-index c.item-item.result c.loop-item-test.true c.item-item.is) in
      let x : true ≡ false = sym ((c.outdoes.ensures held).1 old) ∙ c.if-not-outdoes.true in absurd (cc),
)

pub returns : goal.returns
returns c = λ held. (
  λ t. subst (λ xs. AreOutdone (items_of c.args.held.now) (map (λ item. item.now) xs))
      (take_all c.loop-item.item-index c.args.items.now c.loop-item-test.false) (c.loop-item.invariant held),
  λ outdone. refl,
)
