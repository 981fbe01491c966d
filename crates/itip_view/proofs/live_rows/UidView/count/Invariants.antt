use Rattle.std.proofs.Common.{take}
use Rattle.itip_view.proofs.Counting.{CountedUpTo}
use Rattle.itip_view.proofs.live_rows.UidView.count.Given as goal

abbrev pub invariant-loop-at : goal.invariant-loop-at
invariant-loop-at l = CountedUpTo l.wanted l.self.items.now l.self.window (take l.at-index l.at-items) l.number
