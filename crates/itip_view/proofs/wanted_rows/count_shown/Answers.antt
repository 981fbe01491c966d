use Rattle.std.proofs.Common.{List, ℕ, subst}
use Rattle.std.specs.List.{filter}
use Rattle.itip_state.proofs.Members.{if_ok_then}
use Rattle.itip_state.specs.OfUid.{UidPart}
use Rattle.itip_view.specs.UidWithMostRows.{HasRows}
use Rattle.itip_view.specs.RowsOfUid.{AreRowsOf}
use Rattle.itip_view.specs.UnmadeRows.{AreWanted}
use Rattle.itip_view.specs.Wanted.{wants}
use Rattle.itip_view.specs.Wanting.{Wants}
use Rattle.itip_view.specs.declared.wanted.Wanted.{Wanted}
use Rattle.itip_view.proofs.Showing.{rows_passing}
use Rattle.itip_view.proofs.Wanting.{wants_decides}
use Rattle.itip_view.proofs.wanted_rows.count_shown.Goals as goal

pub returns : goal.returns
returns c =
    let uid : List ℕ = c.args.uid.now in
    let wanted : Wanted = c.args.wanted.now in
    let part : UidPart = c.in_ok-items.items in
    if_ok_then (AreWanted wanted part c.args.window) (HasRows (Wants wanted) c.args.state.now c.args.window uid) c.count_of_uid.result
    (λ number are. record {
      rows = filter (wants wanted) are.rows;
      are_rows = rows_passing c.args.state.now c.args.window uid (Wants wanted) (wants wanted) (wants_decides wanted) part.items are.rows
          c.in_ok-items.ensures.items
          (subst (λ (u : List ℕ). AreRowsOf part.items c.args.window u are.rows) c.in_ok-items.ensures.uid are.are_rows);
      number_is = are.number_is;
    }) c.count_of_uid.ensures
