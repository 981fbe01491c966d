use Rattle.itip_state.proofs.Members.{if_ok_then}
use Rattle.itip_view.specs.PutRows.{IsPut, IsPlacePut}
use Rattle.itip_view.proofs.live_rows.UidView.put_place.Goals as goal

pub returns : goal.returns
returns c =
    if_ok_then (IsPut c.args.wanted.now c.in_ok-row.row c.args.out.now.items c.put_if_wanted-is_put.new.out.items)
    (IsPlacePut c.args.wanted.now c.args.self.now.items.now c.args.place.now c.args.out.now.items c.put_if_wanted-is_put.new.out.items)
    c.put_if_wanted-is_put.result
    (λ is_put put. record { row = c.in_ok-row.row; made = c.in_ok-row.ensures; put = put }) c.put_if_wanted-is_put.ensures
