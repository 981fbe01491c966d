use Rattle.std.proofs.Common.{◌≡◌, ◌∙◌, List, ℕ, Some, ap, sym, subst, refl}
use Rattle.std.specs.Prelude.{cond, is_some}
use Rattle.std.specs.Ordering.{is_eq}
use Rattle.itip_join.specs.Changes.{replaced}
use Rattle.itip_state.specs.Held.{UidState, at}
use Rattle.itip_state.specs.UidStates.{uid_state, uid_states}
use Rattle.itip_state.specs.Raised.{IsRaisedAt}
use Rattle.itip_state.proofs.Maps.{uid_cmp}
use Rattle.itip_state.proofs.Seeing.{seen_some, seen_none, replaced_seen, in_order}
use Rattle.itip_state.proofs.Tracking.{set_of, tracked_put, tracked_kept}
use Rattle.itip_state.proofs.Undoing.{replaced_twice, put_at, put_apart}
use Rattle.itip_state.proofs.held.Held.raise.Goals as goal
use Rattle.itip_state.proofs.held.Held.raise.Goals.{After-replace, After-replace-2}

-- what is held before, then without what changes, and finally
abbrev old : After-replace → List (List ℕ × UidState)
old c = uid_states c.self.inside.map.map uid_state

abbrev mid : After-replace → List (List ℕ × UidState)
mid c = uid_states c.replace.new.self.map uid_state

first : (c : After-replace) (q : List ℕ) →
    at (mid c) q ≡ cond (is_eq (uid_cmp c.args.uid.now q)) (replaced (at (old c) c.args.uid.now) (uid_state c.of_nothing.result))
    (at (old c) q)
first c = replaced_seen uid_state c.self.inside.map.map c.replace.new.self.map c.args.uid.now c.of_nothing.result c.replace.ensures.with

-- nothing is held of the UID
pub invariant_of-self : goal.invariant_of-self
invariant_of-self c =
    let a = (goal.at.invariant_of-self c).After-replace in
    tracked_put c.args.uid.now c.self.inside.due c.remove-due.new.self (old a) (mid a) c.self.invariant
    (replaced (at (old a) c.args.uid.now) (uid_state c.of_nothing.result)) (first a) c.remove-due.ensures.updates

pub returns-in_default-clause-raised : goal.returns-in_default-clause-raised
returns-in_default-clause-raised c =
    let a = (goal.at.returns-in_default-clause-raised c).After-replace in
    let none = seen_none uid_state c.self.inside.map.map c.args.self.now c.self.view_is c.args.uid.now c.in_default.ensures.before in
    subst (λ o. IsRaisedAt o c.args.best (at (mid a) c.args.uid.now)) (sym none)
    (put_at (old a) (mid a) c.args.uid.now c.args.uid.now (replaced (at (old a) c.args.uid.now) (uid_state c.of_nothing.result))
    refl (first a)
    ∙ ap (λ o. replaced o (uid_state c.of_nothing.result)) (ap (λ es. at es c.args.uid.now) c.self.view_is ∙ none))

pub returns-in_default-clause-others : goal.returns-in_default-clause-others
returns-in_default-clause-others c = λ q n.
    let a = (goal.at.returns-in_default-clause-others c).After-replace in
    put_apart (old a) (mid a) c.args.uid.now c.args.uid.now (replaced (at (old a) c.args.uid.now) (uid_state c.of_nothing.result)) refl
    (first a) q n ∙ ap (λ es. at es q) c.self.view_is

pub returns-in_default-clause-ordered : goal.returns-in_default-clause-ordered
returns-in_default-clause-ordered c = in_order uid_state c.replace.new.self.map c.replace.new.self.ordered

-- something is
there : (c : After-replace-2) → at (uid_states c.self.inside.map.map uid_state) c.args.uid.now ≡ Some (uid_state c.in-Some.held)
there c = seen_some uid_state c.self.inside.map.map (uid_states c.self.inside.map.map uid_state) refl c.args.uid.now c.in-Some.held
    c.in-Some.ensures.before

pub raised-held-requires : goal.raised-held-requires
raised-held-requires c = set_of c.args.uid.now c.self.inside.due (uid_states c.self.inside.map.map uid_state) c.self.invariant
    c.remove-due.result c.remove-due.ensures.value (uid_state c.in-Some.held)
    (seen_some uid_state c.self.inside.map.map (uid_states c.self.inside.map.map uid_state) refl c.args.uid.now c.in-Some.held
    c.in-Some.ensures.before)

abbrev now : After-replace-2 → List (List ℕ × UidState)
now c = uid_states c.replace-2.new.self.map uid_state

-- the state that is put back in its place
put : (c : After-replace-2) (q : List ℕ) → at (now c) q ≡ cond (is_eq (uid_cmp c.args.uid.now q))
    (Some (uid_state c.raised-held.result.0)) (at (uid_states c.self.inside.map.map uid_state) q)
put c = replaced_twice (uid_states c.self.inside.map.map uid_state) (uid_states c.replace.new.self.map uid_state) (now c) c.args.uid.now
    (uid_state c.of_nothing.result) (uid_state c.raised-held.result.0) (ap is_some (there c))
    (replaced_seen uid_state c.self.inside.map.map c.replace.new.self.map c.args.uid.now c.of_nothing.result c.replace.ensures.with)
    (replaced_seen uid_state c.replace.new.self.map c.replace-2.new.self.map c.args.uid.now c.raised-held.result.0 c.replace-2.ensures.with)

pub invariant_of-self-2 : goal.invariant_of-self-2
invariant_of-self-2 c =
    let a = (goal.at.invariant_of-self-2 c).After-replace-2 in
    tracked_kept c.args.uid.now c.self.inside.due c.remove-due.new.self (uid_states c.self.inside.map.map uid_state)
    (now a) c.self.invariant
    (Some (uid_state c.raised-held.result.0)) (put a) c.keep.new.due c.remove-due.ensures.updates c.keep.ensures.others
    c.raised-held.result.1 c.keep.ensures.here (uid_state c.raised-held.result.0) refl c.raised-held.ensures.due

pub returns-clause-raised : goal.returns-clause-raised
returns-clause-raised c =
    let a = (goal.at.returns-clause-raised c).After-replace-2 in
    subst (λ o. IsRaisedAt o c.args.best (at (now a) c.args.uid.now)) (sym (there a) ∙ ap (λ es. at es c.args.uid.now) c.self.view_is) (
      uid_state c.raised-held.result.0,
      put_at (uid_states c.self.inside.map.map uid_state) (now a) c.args.uid.now c.args.uid.now
          (Some (uid_state c.raised-held.result.0)) refl (put a),
      c.raised-held.ensures.joined,
    )

pub returns-clause-others : goal.returns-clause-others
returns-clause-others c = λ q n.
    let a = (goal.at.returns-clause-others c).After-replace-2 in
    put_apart (uid_states c.self.inside.map.map uid_state) (now a) c.args.uid.now c.args.uid.now
    (Some (uid_state c.raised-held.result.0)) refl
    (put a) q n ∙ ap (λ es. at es q) c.self.view_is

pub returns-clause-ordered : goal.returns-clause-ordered
returns-clause-ordered c = in_order uid_state c.replace-2.new.self.map c.replace-2.new.self.ordered
