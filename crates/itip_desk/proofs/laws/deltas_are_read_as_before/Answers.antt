use Rattle.itip_message.proofs.BeforeRanges.{messages_now}
use Rattle.itip_desk.proofs.laws.deltas_are_read_as_before.Goals as goal

pub returns : goal.returns
returns c = λ bytes given batch was is. record { given = given; reads = messages_now bytes given was; batch_is = is }
