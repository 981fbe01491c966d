use Rattle.itip_desk.proofs.ReadDeltas.{one_batch, one_refusal, delta_apart}
use Rattle.itip_desk.proofs.SomeDelta.{some_delta}
use Rattle.itip_desk.proofs.laws.one_delta.Goals as goal

pub returns-clause-some : goal.returns-clause-some
returns-clause-some c = some_delta

pub returns-clause-batch : goal.returns-clause-batch
returns-clause-batch c = one_batch

pub returns-clause-refusal : goal.returns-clause-refusal
returns-clause-refusal c = one_refusal

pub returns-clause-apart : goal.returns-clause-apart
returns-clause-apart c = delta_apart
