use Rattle.itip_lines.proofs.Stretches.{stretches_of_break, stretches_of_last}
use Rattle.itip_lines.proofs.unfold.cut_break.Goals as goal

pub returns-in-Some-clause-stretches : goal.returns-in-Some-clause-stretches
returns-in-Some-clause-stretches c = stretches_of_break _ _ _ _ c.in-Some.ensures.0 c.in-Some.ensures.1 c.strip_cr.ensures

pub returns-in-None-clause-stretches : goal.returns-in-None-clause-stretches
returns-in-None-clause-stretches c = stretches_of_last _ c.in-None.ensures
