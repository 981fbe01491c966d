use Rattle.itip_office.proofs.OneEnd.{same_desks, same_texts, same_replies}
use Rattle.itip_office.proofs.laws.one_end.Goals as goal

pub returns-clause-desks : goal.returns-clause-desks
returns-clause-desks c = same_desks

pub returns-clause-texts : goal.returns-clause-texts
returns-clause-texts c = same_texts

pub returns-clause-replies : goal.returns-clause-replies
returns-clause-replies c = same_replies
