use Rattle.itip_message.specs.Scanned.{messages_of}
use Rattle.itip_message.proofs.Cuts.{cut_by_scan}
use Rattle.itip_message.proofs.OneCut.{one_cut}
use Rattle.itip_message.proofs.laws.message_cutting.Goals as goal

pub returns-clause-some : goal.returns-clause-some
returns-clause-some c = λ bytes. (messages_of bytes, cut_by_scan bytes)

pub returns-clause-one : goal.returns-clause-one
returns-clause-one c = one_cut
