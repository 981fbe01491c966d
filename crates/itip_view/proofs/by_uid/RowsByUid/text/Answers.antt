use Rattle.std.proofs.Common.{◌∙◌, ℕ, List, map, subst}
use Rattle.itip_state.proofs.Nothing.{no_view}
use Rattle.itip_state.proofs.Members.{if_ok_then}
use Rattle.itip_view.specs.ByUid.{IsTextLeft}
use Rattle.itip_view.specs.Showing.{AreRowsWhere, AreTooManyWhere, IsAmong, IsTextAmong}
use Rattle.itip_view.specs.Wanting.{Wants}
use Rattle.itip_view.specs.declared.by_uid.RowsByUid.{RowsByUid}
use Rattle.itip_view.proofs.by_uid.RowsByUid.text.Goals as goal

pub returns-clause-text : goal.returns-clause-text
returns-clause-text c =
    let asked : RowsByUid = c.args.self.now in
    let uids : List (List ℕ) = map (λ uid. uid.now) c.left.result.now in
    if_ok_then (λ text. IsTextAmong (Wants asked.wanted) asked.state.now asked.window uids text.items)
    (λ text. IsTextLeft asked text.items) c.text_within_limit.result
    (λ text is. record {
      rows = is.rows;
      are_left = subst (λ (us : List (List ℕ)). AreRowsWhere (IsAmong us (Wants asked.wanted)) asked.state.now asked.window is.rows)
          c.left.ensures.uids is.are_rows;
      few = is.few;
      text_is = is.text_is;
    }) c.text_within_limit.ensures.text

pub returns-clause-many : goal.returns-clause-many
returns-clause-many c = λ refused.
    let asked : RowsByUid = c.args.self.now in
    subst (λ (us : List (List ℕ)). AreTooManyWhere (IsAmong us (Wants asked.wanted)) asked.state.now asked.window) c.left.ensures.uids
    (c.text_within_limit.ensures.many refused)

pub returns-clause-succeeds : goal.returns-clause-succeeds
returns-clause-succeeds c = λ none.
    c.text_within_limit.ensures.succeeds (no_view (λ uid. uid.now) c.left.result.now (c.left.ensures.uids ∙ none))
