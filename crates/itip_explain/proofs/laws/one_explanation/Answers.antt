use Rattle.itip_explain.proofs.OneFate.{one_fate, one_first, one_text}
use Rattle.itip_explain.proofs.laws.one_explanation.Goals as goal

pub returns-clause-fate : goal.returns-clause-fate
returns-clause-fate c = one_fate

pub returns-clause-first : goal.returns-clause-first
returns-clause-first c = one_first

pub returns-clause-text : goal.returns-clause-text
returns-clause-text c uid told names text other p q = one_text told names told text other p.lines q.lines
