use Rattle.itip_state.proofs.Members.{if_ok_then}
use Rattle.itip_view.specs.ByUid.{IsTextLeft}
use Rattle.itip_view.specs.ListText.{IsListText}
use Rattle.itip_view.specs.Wanting.{Wants}
use Rattle.itip_view.proofs.Left.{too_many_where}
use Rattle.itip_view.proofs.SameAsked.{rows_of_all, many_of_all}
use Rattle.itip_running.proofs.outside.text_in.Goals as goal

pub returns-clause-text : goal.returns-clause-text
returns-clause-text c =
    let heard = c.args.state.now in
    if_ok_then (λ text. IsTextLeft c.in-Ok.rows text.items) (λ text. IsListText heard c.args.window text.items) c.text_of.result
    (λ text is. record {
      rows = is.rows;
      are_rows = rows_of_all (Wants c.all.result) heard c.args.window (λ row there. c.all.ensures row) is.rows
          ((c.in-Ok.ensures.rows is.rows).0 is.are_left);
      few = is.few;
      text_is = is.text_is;
    })
    c.text_of.ensures.text

pub returns-clause-many : goal.returns-clause-many
returns-clause-many c e =
    let heard = c.args.state.now in
    many_of_all (Wants c.all.result) heard c.args.window
    (too_many_where (Wants c.all.result) heard c.args.window c.in-Ok.rows c.in-Ok.ensures.asked (c.text_of.ensures.many e))
