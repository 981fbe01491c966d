use Rattle.std.proofs.Common.{◌∙◌, ap}
use Rattle.itip_state.specs.UidStates.{uid_state, uid_states}
use Rattle.itip_state.proofs.Nothing.{none_held}
use Rattle.itip_state.proofs.held.Held.shared_items.Goals as goal

pub returns-in_err-share-clause-succeeds : goal.returns-in_err-share-clause-succeeds
returns-in_err-share-clause-succeeds c = λ none.
    absurd (none_held c.loop-series.items.items (uid_states c.loop-series.series-iterator uid_state) _ _
    (ap (λ es. uid_states es uid_state) c.in-Some.ensures.steps) c.loop-series.invariant.sound (c.loop-series.invariant.shared ∙ none))
