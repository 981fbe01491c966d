use Rattle.std.proofs.Common.{map, take}
use Rattle.itip_view.specs.Showing.{AreRowsWhere, IsAmong}
use Rattle.itip_view.specs.Wanting.{Wants}
use Rattle.itip_view.proofs.uid_order.rows_by_uid.Given as goal

abbrev pub invariant-loop-uid : goal.invariant-loop-uid
invariant-loop-uid l =
    AreRowsWhere (IsAmong (take l.uid-index (map (λ uid. uid.now) l.uids)) (Wants l.wanted)) l.state l.window l.rows.items
