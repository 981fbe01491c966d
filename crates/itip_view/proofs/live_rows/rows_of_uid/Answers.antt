use Rattle.std.proofs.Common.{subst}
use Rattle.itip_state.proofs.Members.{if_ok_then}
use Rattle.itip_state.specs.OfUid.{UidPart}
use Rattle.itip_view.specs.InUid.{IsViewOf}
use Rattle.itip_view.specs.RowsOfUid.{AreRowsOf}
use Rattle.itip_view.specs.declared.live_rows.UidView.{UidView}
use Rattle.itip_view.specs.declared.window.Window.{Window}
use Rattle.itip_view.proofs.live_rows.rows_of_uid.Goals as goal

pub rows-requires : goal.rows-requires
rows-requires c = c.in_ok-view.ensures.found

pub returns : goal.returns
returns c =
    let part : UidPart = c.args.items.now in
    let view : UidView = c.in_ok-view.view in
    let is : IsViewOf part c.args.window view = c.in_ok-view.ensures in
    if_ok_then (λ rows. AreRowsOf view.items.now.items view.window view.items.now.uid rows.items)
    (λ rows. AreRowsOf part.items c.args.window part.uid rows.items) c.rows.result
    (λ rows are. subst (λ (w : Window). AreRowsOf part.items w part.uid rows.items) is.window_is
    (subst (λ (p : UidPart). AreRowsOf p.items view.window p.uid rows.items) is.items_are are)) c.rows.ensures
