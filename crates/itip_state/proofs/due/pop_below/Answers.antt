use Rattle.std.proofs.Common.{◌≤◌, arith}
use Rattle.itip_state.proofs.Members.{if_some_then}
use Rattle.itip_state.proofs.Dying.{pair_low, popped_other}
use Rattle.itip_state.proofs.due.pop_below.Goals as goal

pub returns-then-first-below-clause-none : goal.returns-then-first-below-clause-none
returns-then-first-below-clause-none c = λ pair there.
    let low : (c.in_ok-first.first.now).0 ≤ pair.0 = pair_low c.in_ok-first.first.now pair (c.in_ok-first.ensures.least pair there) in
    omega (arith, low, c.if-first-below.true)

pub returns-clause-popped : goal.returns-clause-popped
returns-clause-popped c = if_some_then c.pop_first.result _ _
    (λ k updates. popped_other c.args.due.now c.pop_first.new.self k updates) c.pop_first.ensures.updates
