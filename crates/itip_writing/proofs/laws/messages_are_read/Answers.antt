use Rattle.itip_writing.proofs.ErrandLaws.{refresh_items, reply_items}
use Rattle.itip_writing.proofs.SentRead.{sent_read}
use Rattle.itip_writing.proofs.laws.messages_are_read.Goals as goal

pub returns : goal.returns
returns c = record {
  todos = λ m all items suits nought reads. sent_read m all items suits nought reads;
  reply = λ heard uid id answer at octets sent items small reads. reply_items heard uid id answer at octets sent items small reads;
  refresh = λ heard uid id address at octets sent items reads. refresh_items heard uid id address at octets sent items reads;
}
