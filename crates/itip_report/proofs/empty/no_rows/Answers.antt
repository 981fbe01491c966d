use Rattle.std.proofs.Common.{◌≡◌, List, [], map, ap, subst}
use Rattle.std.specs.List.{Contains}
use Rattle.itip_state.proofs.Members.{if_ok_then, none_in}
use Rattle.itip_view.specs.ByUid.{AreAsked}
use Rattle.itip_view.specs.Showing.{IsAmong}
use Rattle.itip_view.specs.Wanting.{Wants}
use Rattle.itip_view.specs.declared.row.Row.{Row}
use Rattle.itip_report.proofs.empty.no_rows.Goals as goal

pub returns : goal.returns
returns c =
    let uids = map (λ u. u.now) c.new.result.items in
    let none : uids ≡ [] = ap (map (λ u. u.now)) c.new.ensures.items in
    if_ok_then (AreAsked (IsAmong uids (Wants c.all.result)) c.args.state.now c.args.window)
    (AreAsked (λ (row : Row). ⊥) c.args.state.now c.args.window) c.among.result
    (λ asked is. record {
      state_is = is.state_is;
      window_is = is.window_is;
      alike = λ row there. (
        λ wanted. none_in row.uid (subst (λ (us : List _). Contains us row.uid) none ((is.alike row there).0 wanted).uid_is),
        λ no. absurd no,
      );
    })
    c.among.ensures.asked
