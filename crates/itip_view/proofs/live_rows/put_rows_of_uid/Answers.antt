use Rattle.std.proofs.Common.{subst}
use Rattle.itip_state.proofs.Members.{if_ok_then}
use Rattle.itip_state.specs.OfUid.{UidPart}
use Rattle.itip_view.specs.InUid.{IsViewOf}
use Rattle.itip_view.specs.PutRows.{ArePut}
use Rattle.itip_view.specs.declared.live_rows.UidView.{UidView}
use Rattle.itip_view.specs.declared.window.Window.{Window}
use Rattle.itip_view.proofs.live_rows.put_rows_of_uid.Goals as goal

pub put-requires : goal.put-requires
put-requires c = c.in_ok-view.ensures.found

pub returns : goal.returns
returns c =
    let part : UidPart = c.args.items.now in
    let view : UidView = c.in_ok-view.view in
    let is : IsViewOf part c.args.window view = c.in_ok-view.ensures in
    if_ok_then (ArePut c.args.wanted.now view.items.now view.window c.args.out.now.items c.put.new.out.items)
    (ArePut c.args.wanted.now part c.args.window c.args.out.now.items c.put.new.out.items) c.put.result
    (λ number are. subst (λ (w : Window). ArePut c.args.wanted.now part w c.args.out.now.items c.put.new.out.items number) is.window_is
    (subst (λ (p : UidPart). ArePut c.args.wanted.now p view.window c.args.out.now.items c.put.new.out.items number) is.items_are are))
    c.put.ensures
