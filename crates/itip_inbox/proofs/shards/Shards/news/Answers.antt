use Rattle.std.proofs.Common.{◌≡◌, ◌∙◌, ◌+◌, sym, ap, subst, List, [], ◌∷◌, ◌++◌, map, take, true, false}
use Rattle.std.proofs.lemmas.List.{take_more, take_all, map-append}
use Rattle.itip_items.specs.declared.item.Item.{Item}
use Rattle.itip_state.specs.Told.{IsOutdone, AreNews}
use Rattle.itip_state.proofs.News.{one_more_news, nothing_new}
use Rattle.itip_inbox.proofs.shards.Shards.news.Goals as goal
use Rattle.itip_inbox.proofs.shards.Shards.news.Goals.{In_ok-is_outdone}

-- the items up to and with this one
one_more : (c : In_ok-is_outdone) → take (c.loop-item.item-index + 1) c.args.items.now ≡ take c.loop-item.item-index c.args.items.now ++
    c.item-item.result ∷ []
one_more c = take_more c.args.items.now c.loop-item.item-index c.item-item.result c.loop-item-test.true ∙
    ap (λ x. take c.loop-item.item-index c.args.items.now ++ x ∷ []) (sym c.item-item.is)

pub loop-item-preserved-then-branch : goal.loop-item-preserved-then-branch
loop-item-preserved-then-branch c =
    let at = (goal.at.loop-item-preserved-then-branch c).In_ok-is_outdone in
    let news : List Item = map (λ item. item.now) c.loop-item.news.items in
    subst (λ (xs : List Item). AreNews c.args.self.now xs news) (sym (one_more at))
    (nothing_new c.args.self.now (take c.loop-item.item-index c.args.items.now) news c.item-item.result
    (c.in_ok-is_outdone.ensures.0 c.if-branch.true) c.loop-item.invariant)

pub loop-item-preserved : goal.loop-item-preserved
loop-item-preserved c =
    let at = (goal.at.loop-item-preserved c).In_ok-is_outdone in
    let new : ¬ IsOutdone c.args.self.now c.item-item.result = λ old.
    let x : true ≡ false = sym (c.in_ok-is_outdone.ensures.1 old) ∙ c.if-branch.false in cc in
    let news : List Item = map (λ item. item.now) c.loop-item.news.items in
    let pushed : map (λ item. item.now) c.push.new.self.items ≡ news ++ c.item-item.result ∷ [] =
    ap (map (λ item. item.now)) c.in_ok-push.ensures.items ∙ map-append (λ item. item.now) c.loop-item.news.items _ in
    subst (λ (ys : List Item). AreNews c.args.self.now (take (c.loop-item.item-index + 1) c.args.items.now) ys) (sym pushed)
    (subst (λ (xs : List Item). AreNews c.args.self.now xs (news ++ c.item-item.result ∷ [])) (sym (one_more at))
    (one_more_news c.args.self.now (take c.loop-item.item-index c.args.items.now) news c.item-item.result new c.loop-item.invariant))

pub returns : goal.returns
returns c = subst (λ (xs : List Item). AreNews c.args.self.now xs (map (λ item. item.now) c.loop-item.news.items))
    (take_all c.loop-item.item-index c.args.items.now c.loop-item-test.false) c.loop-item.invariant
