use Rattle.itip_inbox.proofs.Packing.{one_left}
use Rattle.itip_inbox.proofs.refusals.RefusalsIterIterator.next.Goals as goal

pub returns-in_err-refused-clause-steps : goal.returns-in_err-refused-clause-steps
returns-in_err-refused-clause-steps c = absurd (one_left _ _ _ _ c.in_ok-cause.ensures.cases.0 c.self.invariant c.in_err-refused.ensures)
