use Rattle.std.proofs.Common.{◌≡◌, ◌<◌, ◌≤◌, ◌∙◌, ◌↔◌, ◌⊎◌, ℕ, List, [], map, length, subst, sym, ap, arith}
use Rattle.std.specs.Prelude.{MatchBool}
use Rattle.std.specs.List.{Contains}
use Rattle.itip_items.specs.declared.item.Item.{Item}
use Rattle.itip_state.specs.Kept.{AreUidsOf}
use Rattle.itip_state.proofs.Members.{if_ok_then}
use Rattle.itip_state.proofs.Nothing.{uids_of_nothing, not_ok}
use Rattle.itip_view.specs.ByUid.{AreAsked, AreLeft}
use Rattle.itip_view.specs.RowDays.{HasRowsIn}
use Rattle.itip_view.specs.Rows.{AreRows}
use Rattle.itip_view.specs.Showing.{IsAmong}
use Rattle.itip_view.specs.Wanting.{Wants}
use Rattle.itip_view.specs.declared.by_uid.RowsByUid.{RowsByUid}
use Rattle.itip_view.specs.declared.row.Row.{Row}
use Rattle.itip_view.proofs.Left.{asked_as, left_where}
use Rattle.itip_desk.specs.Desk.{Shown}
use Rattle.itip_desk.proofs.Between.{row_found, any_rows}
use Rattle.itip_desk.proofs.desk.Desk.rows.Goals as goal
use Rattle.itip_desk.proofs.desk.Desk.rows.Goals.{After-among, After-of}

found : (c : After-among) → (uid : List ℕ) → HasRowsIn c.args.self.now.kept c.args.window uid →
    Contains (map (λ u. u.now) c.in_ok-uids.uids.items) uid
found c = subst (λ (k : List Item). (uid : List ℕ) → HasRowsIn k c.args.window uid →
    Contains (map (λ u. u.now) c.in_ok-uids.uids.items) uid) (ap (λ (d : Shown). d.kept) c.self.view_is) c.in_ok-uids.ensures.uids

asked_is : (c : After-among) (asked : RowsByUid) →
    AreAsked (IsAmong (map (λ u. u.now) c.in_ok-uids.uids.items) (Wants c.all-wanted.result)) c.state-state.result.now c.args.window asked →
    AreAsked (λ row. Unit {0}) c.args.self.now.kept c.args.window asked
asked_is c asked is =
    asked_as (IsAmong (map (λ u. u.now) c.in_ok-uids.uids.items) (Wants c.all-wanted.result)) (λ row. Unit {0}) c.state-state.result.now
    c.args.self.now.kept c.args.window asked is (c.state-state.ensures ∙ ap (λ (d : Shown). d.kept) c.self.view_is)
    (row_found c.args.self.now.kept c.args.window (map (λ u. u.now) c.in_ok-uids.uids.items) (Wants c.all-wanted.result)
    (found c) c.all-wanted.ensures)

pub returns-clause-rows : goal.returns-clause-rows
returns-clause-rows c =
    let at = (goal.at.returns-clause-rows c).After-among in
    if_ok_then (AreAsked (IsAmong (map (λ u. u.now) c.in_ok-uids.uids.items) (Wants c.all-wanted.result)) c.state-state.result.now
    c.args.window)
    (λ asked. (rows : List Row) → AreLeft asked rows ↔ AreRows c.args.self.now.kept c.args.window rows) c.among.result
    (λ asked is rows.
    let left = left_where (λ row. Unit {0}) c.args.self.now.kept c.args.window asked (asked_is at asked is) rows in
    let any = any_rows c.args.self.now.kept c.args.window rows in
    (λ h. any.0 (left.0 h), λ are. left.1 (any.1 are))) c.among.ensures.asked

pub returns-clause-asked : goal.returns-clause-asked
returns-clause-asked c =
    let at = (goal.at.returns-clause-asked c).After-among in
    if_ok_then (AreAsked (IsAmong (map (λ u. u.now) c.in_ok-uids.uids.items) (Wants c.all-wanted.result)) c.state-state.result.now
    c.args.window)
    (AreAsked (λ row. Unit {0}) c.args.self.now.kept c.args.window) c.among.result (asked_is at) c.among.ensures.asked

pub returns-in_err-uids-clause-succeeds : goal.returns-in_err-uids-clause-succeeds
returns-in_err-uids-clause-succeeds c = λ none. not_ok (c.in_err-uids.ensures.succeeds (ap (λ (d : Shown). d.kept) c.self.view_is ∙ none))

pub returns-clause-none : goal.returns-clause-none
returns-clause-none c = λ none.
    c.among.ensures.none (c.in_ok-uids.ensures.none (ap (λ (d : Shown). d.kept) c.self.view_is ∙ none))

pub returns-clause-succeeds : goal.returns-clause-succeeds
returns-clause-succeeds c = λ none.
    c.among.ensures.succeeds (c.in_ok-uids.ensures.none (ap (λ (d : Shown). d.kept) c.self.view_is ∙ none))

-- ---- the UIDs are all that there are
all_is : (c : After-of) (asked : RowsByUid) → AreAsked (Wants c.all-wanted.result) c.state-state.result.now c.args.window asked →
    AreAsked (λ row. Unit {0}) c.args.self.now.kept c.args.window asked
all_is c asked is =
    asked_as (Wants c.all-wanted.result) (λ row. Unit {0}) c.state-state.result.now c.args.self.now.kept c.args.window asked is
    (c.state-state.ensures ∙ ap (λ (d : Shown). d.kept) c.self.view_is) (λ row there. (λ wants. tt, λ any. c.all-wanted.ensures row))

pub returns-then-are_as_many-clause-rows : goal.returns-then-are_as_many-clause-rows
returns-then-are_as_many-clause-rows c =
    let at = (goal.at.returns-then-are_as_many-clause-rows c).After-of in
    if_ok_then (AreAsked (Wants c.all-wanted.result) c.state-state.result.now c.args.window)
    (λ asked. (rows : List Row) → AreLeft asked rows ↔ AreRows c.args.self.now.kept c.args.window rows) c.of.result
    (λ asked is rows.
    let left = left_where (λ row. Unit {0}) c.args.self.now.kept c.args.window asked (all_is at asked is) rows in
    let any = any_rows c.args.self.now.kept c.args.window rows in
    (λ h. any.0 (left.0 h), λ are. left.1 (any.1 are))) c.of.ensures.asked

pub returns-then-are_as_many-clause-asked : goal.returns-then-are_as_many-clause-asked
returns-then-are_as_many-clause-asked c =
    let at = (goal.at.returns-then-are_as_many-clause-asked c).After-of in
    if_ok_then (AreAsked (Wants c.all-wanted.result) c.state-state.result.now c.args.window)
    (AreAsked (λ row. Unit {0}) c.args.self.now.kept c.args.window) c.of.result (all_is at) c.of.ensures.asked

-- there are some
some_there : (c : After-of) → c.args.self.now.kept ≡ [] → ⊥
some_there c none =
    let many = subst (λ b. MatchBool b
    ((all : List (List ℕ)) → AreUidsOf all c.args.self.now.kept → (0 < length all) × (length all ≤ length c.deref.result.now))
    ((all : List (List ℕ)) → AreUidsOf all c.args.self.now.kept → (length all ≡ 0) ⊎ (length c.deref.result.now < length all)))
    c.if-are_as_many.true c.are_as_many.ensures in
    let some : 0 < 0 = (many [] (subst (AreUidsOf []) (sym none) uids_of_nothing)).0 in
    omega (arith, some)

pub returns-then-are_as_many-clause-none : goal.returns-then-are_as_many-clause-none
returns-then-are_as_many-clause-none c = λ none. absurd (some_there (goal.at.returns-then-are_as_many-clause-none c).After-of none)

pub returns-then-are_as_many-clause-succeeds : goal.returns-then-are_as_many-clause-succeeds
returns-then-are_as_many-clause-succeeds c = λ none. absurd (some_there (goal.at.returns-then-are_as_many-clause-succeeds c).After-of none)
