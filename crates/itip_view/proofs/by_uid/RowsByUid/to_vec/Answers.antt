use Rattle.std.proofs.Common.{ℕ, List, map, subst}
use Rattle.itip_state.proofs.Members.{if_ok_then}
use Rattle.itip_view.specs.ByUid.{AreLeft}
use Rattle.itip_view.specs.Showing.{AreRowsWhere, IsAmong}
use Rattle.itip_view.specs.Wanting.{Wants}
use Rattle.itip_view.specs.declared.by_uid.RowsByUid.{RowsByUid}
use Rattle.itip_view.proofs.by_uid.RowsByUid.to_vec.Goals as goal

pub returns : goal.returns
returns c =
    let asked : RowsByUid = c.args.self.now in
    let uids : List (List ℕ) = map (λ uid. uid.now) c.left.result.now in
    if_ok_then (λ rows. AreRowsWhere (IsAmong uids (Wants asked.wanted)) asked.state.now asked.window rows.items)
    (λ rows. AreLeft asked rows.items) c.rows_by_uid.result
    (λ rows are. subst (λ (us : List (List ℕ)). AreRowsWhere (IsAmong us (Wants asked.wanted)) asked.state.now asked.window rows.items)
    c.left.ensures.uids are) c.rows_by_uid.ensures
