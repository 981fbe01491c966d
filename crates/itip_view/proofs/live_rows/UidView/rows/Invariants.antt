use Rattle.std.proofs.Common.{take}
use Rattle.itip_view.proofs.Collecting.{RowsUpTo}
use Rattle.itip_view.proofs.live_rows.UidView.rows.Given as goal

abbrev pub invariant-loop-at : goal.invariant-loop-at
invariant-loop-at l = RowsUpTo l.self.items.now.items l.self.window l.self.items.now.uid (take l.at-index l.at-items) l.rows.items
