use Rattle.itip_state.proofs.Members.{if_ok_then}
use Rattle.itip_view.specs.ByUid.{IsTextLeft}
use Rattle.itip_view.specs.Showing.{Shows, IsListTextFor}
use Rattle.itip_view.specs.Wanting.{Wants}
use Rattle.itip_view.proofs.Left.{too_many_where}
use Rattle.itip_view.proofs.SameAsked.{rows_alike, many_alike}
use Rattle.itip_running.proofs.outside.text_for.Goals as goal

pub returns-clause-text : goal.returns-clause-text
returns-clause-text c =
    let heard = c.args.state.now in
    if_ok_then (λ text. IsTextLeft c.in-Ok.rows text.items) (λ text. IsListTextFor c.args.address.now heard c.args.window text.items)
    c.text_of.result
    (λ text is. record {
      rows = is.rows;
      are_rows = rows_alike (Wants c.showing-wanted.result) (Shows c.args.address.now) c.showing-wanted.ensures heard c.args.window is.rows
          ((c.in-Ok.ensures.rows is.rows).0 is.are_left);
      few = is.few;
      text_is = is.text_is;
    })
    c.text_of.ensures.text

pub returns-clause-many : goal.returns-clause-many
returns-clause-many c e =
    let heard = c.args.state.now in
    let wants = Wants c.showing-wanted.result in
    many_alike wants (Shows c.args.address.now) c.showing-wanted.ensures heard c.args.window
    (too_many_where wants heard c.args.window c.in-Ok.rows c.in-Ok.ensures.asked (c.text_of.ensures.many e))
