use Rattle.std.proofs.Common.{◌≡◌, ◌≤◌, subst, List, length, Some}
use Rattle.std.specs.Prelude.{slice_get}
use Rattle.itip_items.specs.declared.item.Item.{Item}
use Rattle.itip_desk.specs.Desk.{Shown}
use Rattle.itip_world.specs.Serving.Serves.{posts_delta, posts_nothing}
use Rattle.itip_world.proofs.served.Served.post.Goals as goal

pub returns-in_default-clause-serves : goal.returns-in_default-clause-serves
returns-in_default-clause-serves c = λ window.
    posts_nothing c.args.desk c.args.since
    (subst (λ (desks : List Shown). length desks ≤ c.args.desk) c.look-look.ensures.desks c.in_default.ensures)

pub returns-clause-serves : goal.returns-clause-serves
returns-clause-serves c = λ window.
    let batch : List Item = c.in_ok-batch.batch in
    let there = subst (λ (desks : List Shown). slice_get desks c.args.desk ≡ Some c.in-Some.asked.now) c.look-look.ensures.desks
    c.in-Some.ensures in
    let reply = posts_delta c.args.desk c.args.since c.in-Some.asked.now batch there c.in_ok-batch.ensures.delta in
    rw (c.tick.ensures, c.as_slice.ensures.items, c.in_ok-octets.ensures.octets) reply
