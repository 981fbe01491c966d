use Rattle.std.proofs.Common.{List}
use Rattle.itip_items.specs.declared.item.Item.{Item}
use Rattle.itip_state.specs.Kept.{AreKept}
use Rattle.itip_state.proofs.Members.{if_ok_then}
use Rattle.itip_view.specs.ByUid.{IsTextLeft}
use Rattle.itip_view.specs.Showing.{Shows, IsListTextFor}
use Rattle.itip_view.specs.declared.by_uid.RowsByUid.{RowsByUid}
use Rattle.itip_view.proofs.Left.{too_many_where}
use Rattle.itip_view.proofs.OfKept.{text_for_of_kept, many_where_of_kept}
use Rattle.itip_state.proofs.Nothing.{not_ok}
use Rattle.itip_desk.proofs.desk.Desk.list_for.Goals as goal

pub returns-clause-text : goal.returns-clause-text
returns-clause-text c =
    let kept : List Item = c.args.self.now.kept in
    let asked : RowsByUid = c.in_ok-shown.shown in
    if_ok_then (λ text. IsTextLeft asked text.items)
    (λ text. (heard : List Item) → AreKept kept heard → IsListTextFor c.args.address.now heard c.args.window text.items) c.text.result
    (λ text is heard are. text_for_of_kept c.args.address.now kept heard are c.args.window text.items (record {
      rows = is.rows;
      are_rows = (c.in_ok-shown.ensures.rows is.rows).0 is.are_left;
      few = is.few;
      text_is = is.text_is;
    })) c.text.ensures.text

pub returns-clause-many : goal.returns-clause-many
returns-clause-many c = λ refused heard are.
    let kept : List Item = c.args.self.now.kept in
    many_where_of_kept (Shows c.args.address.now) kept heard are c.args.window
    (too_many_where (Shows c.args.address.now) kept c.args.window c.in_ok-shown.shown c.in_ok-shown.ensures.asked
    (c.text.ensures.many refused))

pub returns-in_err-shown-clause-succeeds : goal.returns-in_err-shown-clause-succeeds
returns-in_err-shown-clause-succeeds c = λ none. not_ok (c.in_err-shown.ensures.succeeds none)

pub returns-clause-succeeds : goal.returns-clause-succeeds
returns-clause-succeeds c = λ none. c.text.ensures.succeeds (c.in_ok-shown.ensures.none none)
