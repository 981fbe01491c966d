use Rattle.std.proofs.Common.{List, subst}
use Rattle.std.specs.Prelude.{IfOk}
use Rattle.itip_items.specs.declared.item.Item.{Item}
use Rattle.itip_state.proofs.Members.{if_ok_then}
use Rattle.itip_view.specs.ByUid.{AreAsked}
use Rattle.itip_view.specs.Showing.{Shows}
use Rattle.itip_view.specs.declared.row.Row.{Row}
use Rattle.itip_world.proofs.Addresses.{none_shows}
use Rattle.itip_world.proofs.looks.rows_for.Goals as goal

pub returns-in-Err : goal.returns-in-Err
returns-in-Err c =
    let heard = c.args.desk.now.kept in
    if_ok_then (AreAsked (λ (row : Row). ⊥) heard c.args.window) (AreAsked (Shows c.args.address.now) heard c.args.window) c.no_rows.result
    (λ asked is. record {
      state_is = is.state_is;
      window_is = is.window_is;
      alike = λ row there. (
        λ wanted. absurd ((is.alike row there).0 wanted),
        λ shows. absurd (none_shows heard c.args.window c.args.address.now c.in-Err.ensures.cases.0 row there shows),
      );
    })
    (subst (λ (items : List Item). IfOk c.no_rows.result (AreAsked (λ (row : Row). ⊥) items c.args.window)) c.state.ensures
    c.no_rows.ensures)
