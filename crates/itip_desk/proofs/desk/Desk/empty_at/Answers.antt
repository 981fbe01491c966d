use Rattle.itip_desk.proofs.FileTold.{nothing_told}
use Rattle.itip_desk.proofs.desk.Desk.empty_at.Goals as goal

pub returns-clause-told : goal.returns-clause-told
returns-clause-told c = λ start. nothing_told _ c.empty.ensures start c.new.ensures
