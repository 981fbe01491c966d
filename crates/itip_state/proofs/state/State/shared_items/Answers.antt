use Rattle.std.proofs.Common.{◌∙◌}
use Rattle.itip_state.proofs.Nothing.{not_ok}
use Rattle.itip_state.proofs.state.State.shared_items.Goals as goal

pub returns-in_err-shared_items-clause-succeeds : goal.returns-in_err-shared_items-clause-succeeds
returns-in_err-shared_items-clause-succeeds c = λ none. not_ok (c.in_err-shared_items.ensures.succeeds (c.self.view_is ∙ none))

pub returns-clause-succeeds : goal.returns-clause-succeeds
returns-clause-succeeds c = λ none. c.by_octets.ensures.succeeds (c.in_ok-shared_items.ensures.items ∙ c.self.view_is ∙ none)
