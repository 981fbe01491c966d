use Rattle.std.proofs.Common.{map}
use Rattle.itip_state.proofs.Members.{if_ok_then}
use Rattle.itip_view.specs.ByUid.{IsCountOf}
use Rattle.itip_view.specs.UidWithMostRows.{IsCountAmong}
use Rattle.itip_view.specs.Wanting.{Wants}
use Rattle.itip_view.specs.declared.by_uid.RowsByUid.{RowsByUid}
use Rattle.itip_view.proofs.Left.{count_left}
use Rattle.itip_view.proofs.by_uid.RowsByUid.count.Goals as goal

pub returns : goal.returns
returns c =
    let asked : RowsByUid = c.args.self.now in
    record {
      count = if_ok_then
          (IsCountAmong (Wants asked.wanted) asked.state.now asked.window (map (λ uid. uid.now) c.left.result.now)) (IsCountOf asked)
          c.count_among.result (count_left asked (map (λ uid. uid.now) c.left.result.now) c.left.ensures.uids) c.count_among.ensures;
    }
