use Rattle.std.proofs.Common.{None, ap, ◌∙◌, refl}
use Rattle.std.specs.Prelude.{cond}
use Rattle.std.specs.Ordering.{nat_cmp, is_eq}
use Rattle.std.specs.Cmp.Lexicographic.{slice_cmp}
use Rattle.itip_state.specs.Held.{at}
use Rattle.itip_state.specs.UidStates.{uid_state, uid_states}
use Rattle.itip_state.proofs.Seeing.{put_seen, in_order}
use Rattle.itip_state.proofs.Tracking.{tracked_gone}
use Rattle.itip_state.proofs.held.Held.remove.Goals as goal

pub invariant_of-self : goal.invariant_of-self
invariant_of-self c = tracked_gone c.args.uid.now c.self.inside.due c.self.inside.due (uid_states c.self.inside.map.map uid_state)
    (uid_states c.remove.new.self.map uid_state) c.self.invariant None
    (put_seen uid_state c.self.inside.map.map c.remove.new.self.map c.args.uid.now None c.remove.ensures.without) refl

pub returns-clause-without : goal.returns-clause-without
returns-clause-without c =
    λ q. put_seen uid_state c.self.inside.map.map c.remove.new.self.map c.args.uid.now None c.remove.ensures.without q
    ∙ ap (λ es. cond (is_eq (slice_cmp nat_cmp c.args.uid.now q)) None (at es q)) c.self.view_is

pub returns-clause-ordered : goal.returns-clause-ordered
returns-clause-ordered c = in_order uid_state c.remove.new.self.map c.remove.new.self.ordered
