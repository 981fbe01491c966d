use Rattle.std.proofs.Common.{◌++◌, List, subst}
use Rattle.std.proofs.lemmas.List.{take_all}
use Rattle.itip_items.specs.declared.item.Item.{Item}
use Rattle.itip_desk.specs.Desk.{IsDeskOf}
use Rattle.itip_office.proofs.Sharing.{carries_more}
use Rattle.itip_office.proofs.exchange.with_all.Goals as goal

pub loop-delta-preserved : goal.loop-delta-preserved
loop-delta-preserved c =
    carries_more c.args.deltas.now c.loop-delta.delta-index c.delta-item.result c.args.desk c.loop-delta.desk c.take.new.self
    c.loop-delta-test.true c.delta-item.is c.loop-delta.invariant c.in-Ok.ensures.step

pub returns : goal.returns
returns c = λ steps start is.
    subst (λ (l : List (List Item)). IsDeskOf (steps ++ l) start c.loop-delta.desk) (take_all _ _ c.loop-delta-test.false)
    (c.loop-delta.invariant steps start is)
