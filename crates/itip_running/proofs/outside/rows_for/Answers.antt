use Rattle.itip_view.specs.Showing.{Shows}
use Rattle.itip_view.specs.Wanting.{Wants}
use Rattle.itip_view.proofs.Left.{too_many_where}
use Rattle.itip_view.proofs.SameAsked.{rows_alike, many_alike}
use Rattle.itip_running.proofs.outside.rows_for.Goals as goal

-- `in-Ok` is the making of what is asked for, and `in-Ok-to_vec` the rows
pub returns-then-many-clause-many : goal.returns-then-many-clause-many
returns-then-many-clause-many c e =
    let state = c.args.state.now in
    let wants = Wants c.showing-shown.result in
    many_alike wants (Shows c.args.address.now) c.showing-shown.ensures state c.args.window
    (too_many_where wants state c.args.window c.in-Ok.rows c.in-Ok.ensures.asked (c.in_ok-many.ensures.many c.if-many.true))

pub returns-in-Ok-to_vec-clause-rows : goal.returns-in-Ok-to_vec-clause-rows
returns-in-Ok-to_vec-clause-rows c =
    rows_alike (Wants c.showing-shown.result) (Shows c.args.address.now) c.showing-shown.ensures c.args.state.now c.args.window
    c.in-Ok-to_vec.rows.items ((c.in-Ok.ensures.rows c.in-Ok-to_vec.rows.items).0 c.in-Ok-to_vec.ensures)

pub returns-in-Ok-to_vec-clause-few : goal.returns-in-Ok-to_vec-clause-few
returns-in-Ok-to_vec-clause-few c = c.in_ok-many.ensures.few c.if-many.false c.in-Ok-to_vec.rows.items c.in-Ok-to_vec.ensures
