use Rattle.std.proofs.Common.{ap, ◌∙◌}
use Rattle.std.specs.Prelude.{cond, option_map}
use Rattle.std.specs.Ordering.{nat_cmp, is_eq}
use Rattle.std.specs.Cmp.Lexicographic.{slice_cmp}
use Rattle.itip_join.specs.Changes.{replaced}
use Rattle.itip_state.specs.Held.{at}
use Rattle.itip_state.specs.UidStates.{uid_state, uid_states}
use Rattle.itip_state.proofs.Seeing.{seen_at, replaced_seen, in_order}
use Rattle.itip_state.proofs.Tracking.{tracked_put}
use Rattle.itip_state.proofs.held.Held.replace.Goals as goal

pub invariant_of-self : goal.invariant_of-self
invariant_of-self c =
    tracked_put c.args.uid.now c.self.inside.due c.remove.new.self (uid_states c.self.inside.map.map uid_state)
    (uid_states c.replace.new.self.map uid_state) c.self.invariant
    (replaced (at (uid_states c.self.inside.map.map uid_state) c.args.uid.now) (uid_state c.args.series))
    (replaced_seen uid_state c.self.inside.map.map c.replace.new.self.map c.args.uid.now c.args.series c.replace.ensures.with)
    c.remove.ensures.updates

pub returns-clause-before : goal.returns-clause-before
returns-clause-before c = ap (option_map uid_state) c.replace.ensures.before ∙ seen_at uid_state c.self.inside.map.map c.args.uid.now ∙
    ap (λ es. at es c.args.uid.now) c.self.view_is

pub returns-clause-with : goal.returns-clause-with
returns-clause-with c =
    λ q. replaced_seen uid_state c.self.inside.map.map c.replace.new.self.map c.args.uid.now c.args.series c.replace.ensures.with q
    ∙ ap (λ es. cond (is_eq (slice_cmp nat_cmp c.args.uid.now q)) (replaced (at es c.args.uid.now) (uid_state c.args.series)) (at es q))
    c.self.view_is

pub returns-clause-ordered : goal.returns-clause-ordered
returns-clause-ordered c = in_order uid_state c.replace.new.self.map c.replace.new.self.ordered
