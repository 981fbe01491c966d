use Rattle.std.proofs.Common.{◌∙◌, ◌↔◌, ℕ, List, map, subst, sym, ap}
use Rattle.std.specs.List.{Contains}
use Rattle.itip_items.specs.declared.item.Item.{Item}
use Rattle.itip_state.specs.Kept.{ArePartOf}
use Rattle.itip_state.proofs.Members.{if_ok_then}
use Rattle.itip_view.specs.RowDays.{HasRowsIn}
use Rattle.itip_view.specs.Rows.{IsRow}
use Rattle.itip_view.specs.declared.row.Row.{Row}
use Rattle.itip_desk.specs.Desk.{Shown}
use Rattle.itip_desk.proofs.Parts.{rows_in}
use Rattle.itip_desk.proofs.desk.Desk.items_in.Goals as goal
use Rattle.itip_desk.proofs.desk.Desk.items_in.Goals.{After-shared_of}

-- the UIDs that are found, each once
found : (c : After-shared_of) → (uid : List ℕ) → HasRowsIn c.args.self.now.kept c.args.window uid →
    Contains (map (λ u. u.now) c.in_ok-there.there.items) uid
found c uid has = (c.in_ok-there.ensures.same uid).1
    (c.in_ok-uids_in.ensures.uids uid (subst (λ (k : List Item). HasRowsIn k c.args.window uid)
    (sym (ap (λ (d : Shown). d.kept) c.self.view_is)) has))

part_of : (c : After-shared_of) (part : List Item) → ArePartOf part c.state.result.now (map (λ u. u.now) c.deref.result.now) →
    ArePartOf part c.args.self.now.kept (map (λ u. u.now) c.in_ok-there.there.items)
part_of c part are =
    subst (λ us. ArePartOf part c.args.self.now.kept (map (λ u. u.now) us)) c.deref.ensures.value
    (subst (λ (k : List Item). ArePartOf part k (map (λ u. u.now) c.deref.result.now)) (c.state.ensures ∙
    ap (λ (d : Shown). d.kept) c.self.view_is) are)

pub returns-clause-part : goal.returns-clause-part
returns-clause-part c =
    let at = (goal.at.returns-clause-part c).After-shared_of in
    if_ok_then (λ v. ArePartOf v.items c.state.result.now (map (λ u. u.now) c.deref.result.now)) (λ v. (uids : List (List ℕ)) ×
    ArePartOf v.items c.args.self.now.kept uids) c.shared_of.result
    (λ v are. (map (λ u. u.now) c.in_ok-there.there.items, part_of at v.items are)) c.shared_of.ensures.part

pub returns-clause-rows : goal.returns-clause-rows
returns-clause-rows c =
    let at = (goal.at.returns-clause-rows c).After-shared_of in
    if_ok_then (λ v. ArePartOf v.items c.state.result.now (map (λ u. u.now) c.deref.result.now)) (λ v. (row : Row) →
    IsRow v.items c.args.window row ↔ IsRow c.args.self.now.kept c.args.window row) c.shared_of.result
    (λ v are. rows_in v.items c.args.self.now.kept (map (λ u. u.now) c.in_ok-there.there.items) (part_of at v.items are) c.args.window
    (found at))
    c.shared_of.ensures.part
