use Rattle.std.proofs.Common.{sym, subst}
use Rattle.itip_state.proofs.Dying.{AddsSoFar, adds_start, adds_none, adds_one, adds_all_below, adds_end}
use Rattle.itip_state.proofs.due.share_due.Goals as goal

pub loop-pair-init : goal.loop-pair-init
loop-pair-init c =
    let gives = c.into_iter-pair-iterator.ensures.into_iter_gives in
    subst (AddsSoFar c.args.sequence c.args.entries.now.map c.args.items.now.items c.args.items.now.items) (sym gives.0)
    (adds_start c.args.sequence c.args.entries.now.map c.args.due.now c.args.items.now.items c.requires.due gives.4)

pub returns-then-pair-sequence : goal.returns-then-pair-sequence
returns-then-pair-sequence c = adds_all_below c.args.sequence c.args.entries.now.map c.args.items.now.items c.loop-pair.items.items
    c.in-Some.pair.now c.next.new.self c.loop-pair.pair-iterator c.in-Some.ensures.steps c.loop-pair.invariant c.if-pair-sequence.true

pub share_if_under-requires : goal.share_if_under-requires
share_if_under-requires c = c.requires.placed c.in-Some.pair.now.1 c.in-Some-get.best.now (sym c.in-Some-get.ensures)

pub loop-pair-preserved-in-Continue-1 : goal.loop-pair-preserved-in-Continue-1
loop-pair-preserved-in-Continue-1 c = adds_one c.args.sequence c.args.entries.now.map c.args.items.now.items c.loop-pair.items.items
    c.in-Some.pair.now c.next.new.self c.loop-pair.pair-iterator c.in-Some.ensures.steps c.loop-pair.invariant c.in-Some-get.best.now
    (sym c.in-Some-get.ensures) c.share_if_under.new.items.items c.in_ok-share_if_under.ensures

pub loop-pair-preserved : goal.loop-pair-preserved
loop-pair-preserved c = adds_none c.args.sequence c.args.entries.now.map c.args.items.now.items c.loop-pair.items.items
    c.in-Some.pair.now c.next.new.self c.loop-pair.pair-iterator c.in-Some.ensures.steps c.loop-pair.invariant
    (sym c.in_default.ensures)

pub returns : goal.returns
returns c = adds_end c.args.sequence c.args.entries.now.map c.args.items.now.items c.loop-pair.items.items c.loop-pair.pair-iterator
    c.in-None.ensures.steps.0 c.loop-pair.invariant
