use Rattle.std.proofs.Common.{◌≡◌, List, ℕ, Some, ap, ◌∙◌, subst, refl, false}
use Rattle.std.specs.BTreeMap.{get}
use Rattle.std.specs.Ordering.{is_eq}
use Rattle.itip_join.specs.Bounds.{IsJoinOf}
use Rattle.itip_join.specs.KeyByKey.{value_at}
use Rattle.itip_join.specs.Optional.{IsBelowAt}
use Rattle.itip_join.proofs.Equal.{on_err_then}
use Rattle.itip_items.specs.KeyParts.{uid_of}
use Rattle.itip_state.specs.Held.{UidState, alone, at, AreOrdered}
use Rattle.itip_state.specs.UidStates.{uid_state, uid_states}
use Rattle.itip_state.specs.Joined.{IsJoinedAt}
use Rattle.itip_state.specs.Due.{IsFollowed}
use Rattle.itip_state.proofs.Members.{on_both, on_ok_then}
use Rattle.itip_state.proofs.Maps.{uid_cmp}
use Rattle.itip_state.proofs.Seeing.{seen_at, same_seen, in_order, joined_seen, le}
use Rattle.itip_state.proofs.Tracking.{tracked_but, tracked_with, tracked_same}
use Rattle.itip_state.proofs.held.Held.join_one.Goals as goal
use Rattle.itip_state.proofs.held.Held.join_one.Goals.{After-join_one}

-- what is held before and after, UID by UID
abbrev old : After-join_one → List (List ℕ × UidState)
old c = uid_states c.self.inside.map.map uid_state

abbrev new : After-join_one → List (List ℕ × UidState)
new c = uid_states c.join_one.new.self.map uid_state

abbrev u : After-join_one → List ℕ
u c = uid_of c.args.item.now.key

joined : (c : After-join_one) → IsJoinOf (IsBelowAt (le uid_state)) (value_at uid_cmp c.self.inside.map.map c.uid.result.now)
    (Some c.in_ok-one.one) (value_at uid_cmp c.join_one.new.self.map c.uid.result.now)
    → IsJoinedAt (at (old c) (u c)) (Some (alone c.args.item.now)) (at (new c) (u c))
joined c j = subst (λ (q : List ℕ). IsJoinedAt (at (old c) q) (Some (alone c.args.item.now)) (at (new c) q)) c.uid.ensures
    (subst (λ (st : UidState). IsJoinedAt (at (old c) c.uid.result.now) (Some st) (at (new c) c.uid.result.now)) c.in_ok-one.ensures
    (joined_seen uid_state (λ v. record { sorted = v.entries.ordered; alive = v.no_dead_entry })
    (λ sh w. record { guard = sh.series; entries = record { map = sh.entries; ordered = w.sorted }; no_dead_entry = w.alive })
    (λ sh w. refl)
    c.self.inside.map.map c.join_one.new.self.map (Some c.in_ok-one.one) c.uid.result.now j))

apart : (c : After-join_one) (q : List ℕ) → is_eq (uid_cmp (u c) q) ≡ false → at (new c) q ≡ at (old c) q
apart c q n = same_seen uid_state c.join_one.new.self.map c.self.inside.map.map q
    (c.join_one.ensures.others q (ap (λ v. is_eq (uid_cmp v q)) c.uid.ensures ∙ n))

followed : (c : After-join_one) → IsFollowed (at (old c) (u c)) c.args.item.now (get uid_cmp c.self.inside.due (u c))
    (get uid_cmp c.follow.new.due (u c))
followed c = subst (λ o. IsFollowed o c.args.item.now (get uid_cmp c.self.inside.due (u c)) (get uid_cmp c.follow.new.due (u c)))
    (seen_at uid_state c.self.inside.map.map (u c)) c.follow.ensures.followed

pub invariant_of-self : goal.invariant_of-self
invariant_of-self c =
    let at = (goal.at.invariant_of-self c).After-join_one in
    on_both c.join_one.result
    (λ j. tracked_but (u at) c.self.inside.due c.follow.new.due (old at) (new at) c.self.invariant c.follow.ensures.others (apart at)
    (tracked_with c.args.item.now c.self.inside.due c.follow.new.due (old at) (new at) c.self.invariant (followed at) (joined at j)))
    (λ same. tracked_same c.args.item.now c.self.inside.due c.follow.new.due (old at) (new at) c.self.invariant (followed at)
    (ap (λ es. uid_states es uid_state) same) c.follow.ensures.others)
    c.join_one.ensures.joined c.join_one.ensures.err

pub returns-clause-joined : goal.returns-clause-joined
returns-clause-joined c =
    let after = (goal.at.returns-clause-joined c).After-join_one in
    on_ok_then c.join_one.result
    (λ j. subst (λ (es : List (List ℕ × UidState)). IsJoinedAt (at es (u after)) (Some (alone c.args.item.now)) (at (new after) (u after)))
    c.self.view_is (joined after j))
    c.join_one.ensures.joined

pub returns-clause-others : goal.returns-clause-others
returns-clause-others c = λ q n. apart (goal.at.returns-clause-others c).After-join_one q n ∙ ap (λ es. at es q) c.self.view_is

pub returns-clause-ordered : goal.returns-clause-ordered
returns-clause-ordered c = in_order uid_state c.join_one.new.self.map c.join_one.new.self.ordered

pub returns-in_err-one-clause-ordered : goal.returns-in_err-one-clause-ordered
returns-in_err-one-clause-ordered c = subst AreOrdered c.self.view_is (in_order uid_state c.self.inside.map.map c.self.inside.map.ordered)

pub returns-clause-err : goal.returns-clause-err
returns-clause-err c = on_err_then c.join_one.result (λ e. ap (λ es. uid_states es uid_state) e ∙ c.self.view_is) c.join_one.ensures.err
