use Rattle.std.proofs.Common.{subst}
use Rattle.itip_state.proofs.Members.{if_ok_then}
use Rattle.itip_state.specs.OfUid.{UidPart}
use Rattle.itip_view.specs.InUid.{IsViewOf}
use Rattle.itip_view.specs.UnmadeRows.{AreWanted}
use Rattle.itip_view.specs.declared.live_rows.UidView.{UidView}
use Rattle.itip_view.specs.declared.window.Window.{Window}
use Rattle.itip_view.proofs.live_rows.count_of_uid.Goals as goal

pub count-requires : goal.count-requires
count-requires c = c.in_ok-view.ensures.found

pub returns : goal.returns
returns c =
    let part : UidPart = c.args.items.now in
    let view : UidView = c.in_ok-view.view in
    let is : IsViewOf part c.args.window view = c.in_ok-view.ensures in
    if_ok_then (AreWanted c.args.wanted.now view.items.now view.window) (AreWanted c.args.wanted.now part c.args.window) c.count.result
    (λ number are. subst (λ (w : Window). AreWanted c.args.wanted.now part w number) is.window_is
    (subst (λ (p : UidPart). AreWanted c.args.wanted.now p view.window number) is.items_are are)) c.count.ensures
