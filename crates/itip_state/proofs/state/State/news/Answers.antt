use Rattle.std.proofs.Common.{◌≡◌, ◌+◌, ◌∙◌, ◌↔◌, sym, ap, subst, List, take, map, [], ◌∷◌, ◌++◌, true, false, IsTrue}
use Rattle.std.proofs.lemmas.List.{take_more, map-append}
use Rattle.itip_items.specs.declared.item.Item.{Item}
use Rattle.itip_state.specs.Order.{IsState}
use Rattle.itip_state.specs.Told.{IsOutdone, AreNews}
use Rattle.itip_state.proofs.News.{one_more_news, nothing_new}
use Rattle.itip_state.proofs.Nothing.{below_outdone}
use Rattle.itip_state.proofs.Maps.{held_state}
use Rattle.itip_state.proofs.state.State.news.Goals as goal
use Rattle.itip_state.proofs.state.State.news.Goals.{After-outdoes}

-- the items up to and with this one
one_more : (c : After-outdoes) → take (c.loop-item.item-index + 1) c.args.items.now ≡ take c.loop-item.item-index c.args.items.now ++
    c.item-item.result ∷ []
one_more c = take_more c.args.items.now c.loop-item.item-index c.item-item.result c.loop-item-test.true ∙
    ap (λ x. take c.loop-item.item-index c.args.items.now ++ x ∷ []) (sym c.item-item.is)

-- what the test says of the item
test : (c : After-outdoes) → IsTrue c.outdoes.result ↔ IsOutdone c.args.self.now c.item-item.result
test c = subst (λ (set : List Item). IsTrue c.outdoes.result ↔ IsOutdone set c.item-item.result) c.self.view_is
    (c.outdoes.ensures c.self.invariant)

pub loop-item-preserved-then-outdoes : goal.loop-item-preserved-then-outdoes
loop-item-preserved-then-outdoes c =
    let at = (goal.at.loop-item-preserved-then-outdoes c).After-outdoes in
    let news : List Item = map (λ item. item.now) c.loop-item.news.items in
    subst (λ (xs : List Item). AreNews c.args.self.now xs news) (sym (one_more at))
    (nothing_new c.args.self.now (take c.loop-item.item-index c.args.items.now) news c.item-item.result ((test at).0 c.if-outdoes.true)
    c.loop-item.invariant)

pub loop-item-preserved : goal.loop-item-preserved
loop-item-preserved c =
    let at = (goal.at.loop-item-preserved c).After-outdoes in
    let new : ¬ IsOutdone c.args.self.now c.item-item.result = λ old. let x : true ≡ false = sym ((test at).1 old) ∙ c.if-outdoes.false in
    cc in
    let news : List Item = map (λ item. item.now) c.loop-item.news.items in
    let pushed : map (λ item. item.now) c.push.new.self.items ≡ news ++ c.item-item.result ∷ [] =
    ap (map (λ item. item.now)) c.in_ok-push.ensures.items ∙ map-append (λ item. item.now) c.loop-item.news.items _ in
    subst (λ (ys : List Item). AreNews c.args.self.now (take (c.loop-item.item-index + 1) c.args.items.now) ys) (sym pushed)
    (subst (λ (xs : List Item). AreNews c.args.self.now xs (news ++ c.item-item.result ∷ [])) (sym (one_more at))
    (one_more_news c.args.self.now (take c.loop-item.item-index c.args.items.now) news c.item-item.result new c.loop-item.invariant))

pub returns-clause-state : goal.returns-clause-state
returns-clause-state c = subst IsState c.self.view_is (held_state c.self.inside.held c.self.invariant)

pub returns-in_err-push-clause-succeeds : goal.returns-in_err-push-clause-succeeds
returns-in_err-push-clause-succeeds c = λ below.
    let at = (goal.at.returns-in_err-push-clause-succeeds c).After-outdoes in
    let new : ¬ IsOutdone c.args.self.now c.item-item.result = λ old. let x : true ≡ false = sym ((test at).1 old) ∙ c.if-outdoes.false in
    cc in
    absurd (new (below_outdone c.args.self.now c.args.items.now below c.item-item.result
    (c.loop-item.item-index, c.loop-item-test.true, sym c.item-item.is)))
