use Rattle.itip_message.proofs.laws.one_reading.Goals as goal
use Rattle.itip_message.proofs.OneMessage.{one_message, one_cause, message_apart}
use Rattle.itip_message.proofs.RefusalPlaces.{refusal_placed}
use Rattle.itip_message.proofs.SomeMessage.{some_message}

pub returns-clause-some : goal.returns-clause-some
returns-clause-some c = some_message

pub returns-clause-items : goal.returns-clause-items
returns-clause-items c = one_message

pub returns-clause-refusal : goal.returns-clause-refusal
returns-clause-refusal c = one_cause

pub returns-clause-apart : goal.returns-clause-apart
returns-clause-apart c = message_apart

pub returns-clause-place : goal.returns-clause-place
returns-clause-place c = refusal_placed
