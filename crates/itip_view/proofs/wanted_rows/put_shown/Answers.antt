use Rattle.std.proofs.Common.{List, ℕ, subst}
use Rattle.std.specs.List.{filter}
use Rattle.itip_state.proofs.Members.{if_ok_then}
use Rattle.itip_view.specs.RowsOfUid.{AreRowsOf}
use Rattle.itip_view.specs.PutRows.{ArePut, PutsRows}
use Rattle.itip_view.specs.Showing.{IsOf}
use Rattle.itip_view.specs.Wanted.{wants}
use Rattle.itip_view.specs.Wanting.{Wants}
use Rattle.itip_view.specs.declared.wanted.Wanted.{Wanted}
use Rattle.itip_view.proofs.Showing.{rows_passing}
use Rattle.itip_view.proofs.Wanting.{wants_decides}
use Rattle.itip_view.proofs.wanted_rows.put_shown.Goals as goal

pub returns : goal.returns
returns c =
    let uid : List ℕ = c.args.uid.now in
    let wanted : Wanted = c.args.wanted.now in
    let old : List ℕ = c.args.out.now.items in
    let new : List ℕ = c.put_rows_of_uid.new.out.items in
    if_ok_then (ArePut wanted c.in_ok-items.items c.args.window old new)
    (PutsRows (IsOf uid (Wants wanted)) c.args.state.now c.args.window old new) c.put_rows_of_uid.result
    (λ number put. record {
      rows = filter (wants wanted) put.rows;
      are_rows = rows_passing c.args.state.now c.args.window uid (Wants wanted) (wants wanted) (wants_decides wanted)
          c.in_ok-items.items.items put.rows c.in_ok-items.ensures.items
          (subst (λ (u : List ℕ). AreRowsOf c.in_ok-items.items.items c.args.window u put.rows) c.in_ok-items.ensures.uid put.are_rows);
      number_is = put.number_is;
      text_is = put.text_is;
    }) c.put_rows_of_uid.ensures
