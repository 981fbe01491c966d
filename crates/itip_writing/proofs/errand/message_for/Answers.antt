use Rattle.itip_writing.proofs.errand.message_for.Goals as goal

pub returns-in-CancelOnward-clause-fault : goal.returns-in-CancelOnward-clause-fault
returns-in-CancelOnward-clause-fault c = rw c.in-CancelOnward.is c.onward_cancellation.ensures.fault
