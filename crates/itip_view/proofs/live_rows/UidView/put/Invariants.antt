use Rattle.std.proofs.Common.{take}
use Rattle.itip_view.proofs.Putting.{PutUpTo}
use Rattle.itip_view.proofs.live_rows.UidView.put.Given as goal

abbrev pub invariant-loop-at : goal.invariant-loop-at
invariant-loop-at l =
    PutUpTo l.wanted l.self.items.now l.self.window (take l.at-index l.at-items) l.fn.out.items l.out.items l.number
