use Rattle.std.proofs.Common.{List, ℕ, sym, subst}
use Rattle.itip_state.specs.Held.{UidState}
use Rattle.itip_state.specs.UidStates.{uid_state, uid_states}
use Rattle.itip_state.specs.Joined.{AreBelow}
use Rattle.itip_state.proofs.Seeing.{below_seen, seen_below}
use Rattle.itip_state.proofs.held.Held.below.Goals as goal

pub returns : goal.returns
returns c = (
  λ t. subst (λ (es : List (List ℕ × UidState)). AreBelow es c.args.other.now) c.self.view_is
      (subst (λ (es : List (List ℕ × UidState)). AreBelow (uid_states c.self.inside.map.map uid_state) es) c.other.view_is
      (below_seen uid_state c.self.inside.map.map c.other.inside.map.map (c.below.ensures.0 t))),
  λ l. c.below.ensures.1 (seen_below uid_state c.self.inside.map.map c.other.inside.map.map
      (subst (λ (es : List (List ℕ × UidState)). AreBelow (uid_states c.self.inside.map.map uid_state) es) (sym c.other.view_is)
      (subst (λ (es : List (List ℕ × UidState)). AreBelow es c.args.other.now) (sym c.self.view_is) l))),
)
