use Rattle.std.proofs.Common.{◌∙◌, ap, map}
use Rattle.itip_state.specs.UidStates.{uid_state, uid_states}
use Rattle.itip_state.proofs.Nothing.{none_known}
use Rattle.itip_state.proofs.held.Held.series.Goals as goal

pub returns-in_err-push-clause-succeeds : goal.returns-in_err-push-clause-succeeds
returns-in_err-push-clause-succeeds c = λ none.
    absurd (none_known (map (λ item. item.now) c.loop-series.items.items) (uid_states c.loop-series.series-iterator uid_state) _ _
    _ (ap (λ es. uid_states es uid_state) c.in-Some.ensures.steps) c.in-Known.is (c.loop-series.invariant ∙ none))
