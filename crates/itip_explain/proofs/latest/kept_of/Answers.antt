use Rattle.std.proofs.Common.{◌≡◌, ◌∙◌, subst, take_all, List, Bor}
use Rattle.itip_state.specs.Kept.{AreKept}
use Rattle.itip_explain.specs.Latest.{items_in}
use Rattle.itip_explain.specs.declared.told.ToldItem.{ToldItem}
use Rattle.itip_explain.proofs.Picking.{kept_step}
use Rattle.itip_explain.proofs.latest.kept_of.Goals as goal

pub loop-one-preserved : goal.loop-one-preserved
loop-one-preserved c =
    let same : c.in_ok-item.item ≡ c.one-item.result.now.item = c.in_ok-item.ensures ∙ c.in_ok-clone.ensures.cases in
    kept_step c.loop-one.state c.hear.new.self c.args.told.now c.loop-one.one-index c.one-item.result c.in_ok-item.item c.loop-one-test.true
    c.one-item.is same c.loop-one.invariant c.in_ok-hear.ensures.ok

pub returns : goal.returns
returns c = subst (λ (told : List (Bor ToldItem)). AreKept c.loop-one.state (items_in told))
    (take_all c.loop-one.one-index c.args.told.now c.loop-one-test.false) c.loop-one.invariant
