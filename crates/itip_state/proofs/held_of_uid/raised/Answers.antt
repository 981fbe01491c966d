use Rattle.std.proofs.Common.{◌≡◌, ◌∙◌, sym, true, false}
use Rattle.itip_state.specs.UidStates.{uid_state}
use Rattle.itip_state.proofs.Dying.{raised_not, raised_alive, raised_is}
use Rattle.itip_state.proofs.held_of_uid.raised.Goals as goal

differ : true ≡ false → ⊥
differ e = cc

pub returns-then-below-clause-joined : goal.returns-then-below-clause-joined
returns-then-below-clause-joined c = raised_not (uid_state c.args.held) c.args.best
    (record { sorted = c.args.held.entries.ordered; alive = c.args.held.no_dead_entry }) (c.below.ensures.0 c.if-below.true)

pub invariant_of-held : goal.invariant_of-held
invariant_of-held c = record {
  no_dead_entry = raised_alive (uid_state c.args.held) c.args.best
      (λ below. differ (sym (c.below.ensures.1 below) ∙ c.if-below.false)) c.drop_dead-due.new.entries.map
      c.drop_dead-due.new.entries.ordered
      c.drop_dead-due.ensures.alive;
}

pub returns-clause-joined : goal.returns-clause-joined
returns-clause-joined c = raised_is (uid_state c.args.held) c.args.best
    (λ below. differ (sym (c.below.ensures.1 below) ∙ c.if-below.false)) c.drop_dead-due.new.entries.map c.drop_dead-due.new.entries.ordered
    c.drop_dead-due.ensures.alive
