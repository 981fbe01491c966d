use Rattle.itip_script.proofs.Spellings.{spelled_gives, gives_spelled}
use Rattle.itip_script.proofs.laws.one_spelling.Goals as goal

pub returns : goal.returns
returns c = record { found = gives_spelled; all = spelled_gives }
