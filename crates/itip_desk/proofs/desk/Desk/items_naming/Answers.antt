use Rattle.std.proofs.Common.{◌∙◌, ◌↔◌, ℕ, List, map, subst, sym, ap}
use Rattle.std.specs.List.{Contains}
use Rattle.itip_todo.specs.Table.{attendee_key}
use Rattle.itip_items.specs.declared.item.Item.{Item}
use Rattle.itip_state.specs.Kept.{ArePartOf}
use Rattle.itip_state.proofs.Members.{if_ok_then}
use Rattle.itip_view.specs.RowDays.{NamesIn}
use Rattle.itip_view.specs.Rows.{IsRow}
use Rattle.itip_view.specs.Showing.{Shows}
use Rattle.itip_view.specs.declared.row.Row.{Row}
use Rattle.itip_view.specs.declared.window.Window.{Window}
use Rattle.itip_desk.specs.Desk.{Shown}
use Rattle.itip_desk.proofs.Parts.{rows_showing}
use Rattle.itip_desk.proofs.desk.Desk.items_naming.Goals as goal
use Rattle.itip_desk.proofs.desk.Desk.items_naming.Goals.{After-shared_of}

-- the UIDs that are found, each once
found : (c : After-shared_of) → (uid : List ℕ) → NamesIn c.args.self.now.kept (attendee_key c.args.address.now) uid →
    Contains (map (λ u. u.now) c.in_ok-naming.naming.items) uid
found c uid names = (c.in_ok-naming.ensures.same uid).1
    (c.in_ok-uids_naming.ensures.uids uid (subst (λ (k : List Item). NamesIn k (attendee_key c.args.address.now) uid)
    (sym (ap (λ (d : Shown). d.kept) c.self.view_is)) names))

part_of : (c : After-shared_of) (part : List Item) → ArePartOf part c.state.result.now (map (λ u. u.now) c.deref.result.now) →
    ArePartOf part c.args.self.now.kept (map (λ u. u.now) c.in_ok-naming.naming.items)
part_of c part are =
    subst (λ us. ArePartOf part c.args.self.now.kept (map (λ u. u.now) us)) c.deref.ensures.value
    (subst (λ (k : List Item). ArePartOf part k (map (λ u. u.now) c.deref.result.now)) (c.state.ensures ∙
    ap (λ (d : Shown). d.kept) c.self.view_is) are)

pub returns-clause-part : goal.returns-clause-part
returns-clause-part c =
    let at = (goal.at.returns-clause-part c).After-shared_of in
    if_ok_then (λ v. ArePartOf v.items c.state.result.now (map (λ u. u.now) c.deref.result.now)) (λ v. (uids : List (List ℕ)) ×
    ArePartOf v.items c.args.self.now.kept uids) c.shared_of.result
    (λ v are. (map (λ u. u.now) c.in_ok-naming.naming.items, part_of at v.items are)) c.shared_of.ensures.part

pub returns-clause-rows : goal.returns-clause-rows
returns-clause-rows c =
    let at = (goal.at.returns-clause-rows c).After-shared_of in
    if_ok_then (λ v. ArePartOf v.items c.state.result.now (map (λ u. u.now) c.deref.result.now)) (λ v. (window : Window) (row : Row) →
    Shows c.args.address.now row → IsRow v.items window row ↔ IsRow c.args.self.now.kept window row) c.shared_of.result
    (λ v are window. rows_showing v.items c.args.self.now.kept (map (λ u. u.now) c.in_ok-naming.naming.items)
    (part_of at v.items are) window
    c.args.address.now (found at))
    c.shared_of.ensures.part
