use Rattle.itip_message.proofs.BeforeRanges.{message_now, messages_now}
use Rattle.itip_message.proofs.laws.read_as_before.Goals as goal

pub returns : goal.returns
returns c = record { message = message_now; messages = messages_now }
