use Rattle.std.proofs.Common.{List}
use Rattle.itip_items.specs.declared.item.Item.{Item}
use Rattle.itip_state.specs.Kept.{AreKept}
use Rattle.itip_state.proofs.Members.{if_ok_then}
use Rattle.itip_view.specs.ByUid.{IsTextLeft}
use Rattle.itip_view.specs.ListText.{IsListText}
use Rattle.itip_view.specs.declared.by_uid.RowsByUid.{RowsByUid}
use Rattle.itip_view.proofs.Left.{too_many_where}
use Rattle.itip_view.proofs.OfKept.{text_of_kept, too_many_of_kept}
use Rattle.itip_view.proofs.SameAsked.{many_of_all}
use Rattle.itip_state.proofs.Nothing.{not_ok}
use Rattle.itip_desk.proofs.desk.Desk.list.Goals as goal

pub returns-clause-text : goal.returns-clause-text
returns-clause-text c =
    let kept : List Item = c.args.self.now.kept in
    let asked : RowsByUid = c.in_ok-rows.rows in
    if_ok_then (λ text. IsTextLeft asked text.items)
    (λ text. (heard : List Item) → AreKept kept heard → IsListText heard c.args.window text.items) c.text.result
    (λ text is heard are. text_of_kept kept heard are c.args.window text.items (record {
      rows = is.rows;
      are_rows = (c.in_ok-rows.ensures.rows is.rows).0 is.are_left;
      few = is.few;
      text_is = is.text_is;
    })) c.text.ensures.text

pub returns-clause-many : goal.returns-clause-many
returns-clause-many c = λ refused heard are.
    let kept : List Item = c.args.self.now.kept in
    too_many_of_kept kept heard are c.args.window (many_of_all (λ row. Unit {0}) kept c.args.window
    (too_many_where (λ row. Unit {0}) kept c.args.window c.in_ok-rows.rows c.in_ok-rows.ensures.asked (c.text.ensures.many refused)))

pub returns-in_err-rows-clause-succeeds : goal.returns-in_err-rows-clause-succeeds
returns-in_err-rows-clause-succeeds c = λ none. not_ok (c.in_err-rows.ensures.succeeds none)

pub returns-clause-succeeds : goal.returns-clause-succeeds
returns-clause-succeeds c = λ none. c.text.ensures.succeeds (c.in_ok-rows.ensures.none none)
