use Rattle.std.proofs.Common.{List, ℕ, ap, ◌∙◌, sym, subst, refl}
use Rattle.itip_state.specs.Held.{UidState, at}
use Rattle.itip_state.specs.UidStates.{uid_state, uid_states}
use Rattle.itip_state.specs.Joined.{AreBelow, IsJoinedAt}
use Rattle.itip_join.proofs.Equal.{on_err_then}
use Rattle.itip_state.proofs.Members.{on_ok_then}
use Rattle.itip_state.proofs.Seeing.{in_order, joined_all, seen_below}
use Rattle.itip_state.proofs.held.Held.join.Goals as goal

pub returns-clause-joined : goal.returns-clause-joined
returns-clause-joined c = on_ok_then c.join.result
    (λ j q. subst (λ (es : List (List ℕ × UidState)). IsJoinedAt (at es q) (at c.args.other.now q)
    (at (uid_states c.join.new.self.map uid_state) q)) c.self.view_is
    (subst (λ (es : List (List ℕ × UidState)). IsJoinedAt (at (uid_states c.self.inside.map.map uid_state) q) (at es q)
    (at (uid_states c.join.new.self.map uid_state) q)) c.other.view_is
    (joined_all uid_state (λ v. record { sorted = v.entries.ordered; alive = v.no_dead_entry })
    (λ sh w. record { guard = sh.series; entries = record { map = sh.entries; ordered = w.sorted }; no_dead_entry = w.alive })
    (λ sh w. refl)
    (λ k. k.map) (λ k. k.ordered) (λ es s. record { map = es; ordered = s }) (λ es s. refl) c.self.inside.map c.other.inside.map
    c.join.new.self j q)))
    c.join.ensures.joined

pub returns-clause-ordered : goal.returns-clause-ordered
returns-clause-ordered c = in_order uid_state c.join.new.self.map c.join.new.self.ordered

pub returns-clause-succeeds : goal.returns-clause-succeeds
returns-clause-succeeds c = λ below. c.join.ensures.succeeds (seen_below uid_state c.other.inside.map.map c.self.inside.map.map
    (subst (λ (es : List (List ℕ × UidState)). AreBelow es (uid_states c.self.inside.map.map uid_state)) (sym c.other.view_is)
    (subst (λ (es : List (List ℕ × UidState)). AreBelow c.args.other.now es) (sym c.self.view_is) below)))

pub returns-clause-err : goal.returns-clause-err
returns-clause-err c = on_err_then c.join.result (λ e. ap (λ k. uid_states k.map uid_state) e ∙ c.self.view_is) c.join.ensures.err
