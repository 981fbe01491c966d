use Rattle.std.proofs.Common.{◌∙◌, ◌↔◌, ℕ, List, map, subst, ap}
use Rattle.std.specs.List.{Contains}
use Rattle.itip_todo.specs.Table.{attendee_key}
use Rattle.itip_items.specs.declared.item.Item.{Item}
use Rattle.itip_state.proofs.Members.{if_ok_then}
use Rattle.itip_view.specs.ByUid.{AreAsked, AreLeft}
use Rattle.itip_view.specs.RowDays.{NamesIn}
use Rattle.itip_view.specs.Showing.{Shows, AreRowsWhere, IsAmong}
use Rattle.itip_view.specs.Wanting.{Wants}
use Rattle.itip_view.specs.declared.by_uid.RowsByUid.{RowsByUid}
use Rattle.itip_view.specs.declared.row.Row.{Row}
use Rattle.itip_view.proofs.Left.{asked_as, left_where}
use Rattle.itip_desk.specs.Desk.{Shown}
use Rattle.itip_desk.proofs.Between.{row_naming}
use Rattle.itip_state.proofs.Nothing.{not_ok}
use Rattle.itip_desk.proofs.desk.Desk.rows_for.Goals as goal
use Rattle.itip_desk.proofs.desk.Desk.rows_for.Goals.{After-among}

found : (c : After-among) → (uid : List ℕ) → NamesIn c.args.self.now.kept (attendee_key c.args.address.now) uid →
    Contains (map (λ u. u.now) c.in_ok-uids.uids.items) uid
found c = subst (λ (k : List Item). (uid : List ℕ) → NamesIn k (attendee_key c.args.address.now) uid →
    Contains (map (λ u. u.now) c.in_ok-uids.uids.items) uid) (ap (λ (d : Shown). d.kept) c.self.view_is) c.in_ok-uids.ensures.uids

asked_is : (c : After-among) (asked : RowsByUid) →
    AreAsked (IsAmong (map (λ u. u.now) c.in_ok-uids.uids.items) (Wants c.showing.result)) c.state.result.now c.args.window asked →
    AreAsked (Shows c.args.address.now) c.args.self.now.kept c.args.window asked
asked_is c asked is =
    asked_as (IsAmong (map (λ u. u.now) c.in_ok-uids.uids.items) (Wants c.showing.result)) (Shows c.args.address.now) c.state.result.now
    c.args.self.now.kept c.args.window asked is (c.state.ensures ∙ ap (λ (d : Shown). d.kept) c.self.view_is)
    (row_naming c.args.self.now.kept c.args.window (map (λ u. u.now) c.in_ok-uids.uids.items) (Wants c.showing.result)
    c.args.address.now (found c) c.showing.ensures)

pub returns-clause-rows : goal.returns-clause-rows
returns-clause-rows c =
    let at = (goal.at.returns-clause-rows c).After-among in
    if_ok_then (AreAsked (IsAmong (map (λ u. u.now) c.in_ok-uids.uids.items) (Wants c.showing.result)) c.state.result.now c.args.window)
    (λ asked. (rows : List Row) → AreLeft asked rows ↔ AreRowsWhere (Shows c.args.address.now) c.args.self.now.kept c.args.window rows)
    c.among.result
    (λ asked is. left_where (Shows c.args.address.now) c.args.self.now.kept c.args.window asked (asked_is at asked is))
    c.among.ensures.asked

pub returns-clause-asked : goal.returns-clause-asked
returns-clause-asked c =
    let at = (goal.at.returns-clause-asked c).After-among in
    if_ok_then (AreAsked (IsAmong (map (λ u. u.now) c.in_ok-uids.uids.items) (Wants c.showing.result)) c.state.result.now c.args.window)
    (AreAsked (Shows c.args.address.now) c.args.self.now.kept c.args.window) c.among.result (asked_is at) c.among.ensures.asked

pub returns-in_err-uids-clause-succeeds : goal.returns-in_err-uids-clause-succeeds
returns-in_err-uids-clause-succeeds c = λ none. not_ok (c.in_err-uids.ensures.succeeds (ap (λ (d : Shown). d.kept) c.self.view_is ∙ none))

pub returns-clause-none : goal.returns-clause-none
returns-clause-none c = λ none.
    c.among.ensures.none (c.in_ok-uids.ensures.none (ap (λ (d : Shown). d.kept) c.self.view_is ∙ none))

pub returns-clause-succeeds : goal.returns-clause-succeeds
returns-clause-succeeds c = λ none.
    c.among.ensures.succeeds (c.in_ok-uids.ensures.none (ap (λ (d : Shown). d.kept) c.self.view_is ∙ none))
